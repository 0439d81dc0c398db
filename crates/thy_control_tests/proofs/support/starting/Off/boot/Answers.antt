use Rattle.thy_isa.specs.Step.{state_of, State as Plain}
use Rattle.thy_control_tests.proofs.StartingLemmas.{IsStarting-new, CanStart-least}
use Rattle.thy_control_tests.proofs.support.starting.Off.boot.Goals as goal

pub invariant_of-result : goal.invariant_of-result
invariant_of-result g c =
    let s : Plain = state_of c.args.start.state in
    IsStarting-new c.self.inside.geometry s c.self.inside.dram c.self.inside.nvm.device c.new_boot-boot.result c.new_controller-control.result
    c.self.inside.cuts c.self.invariant
    (CanStart-least c.self.inside.geometry s c.has_least_memory.ensures.in_range c.has_least_memory.ensures.pages c.has_least_memory.ensures.console c.has_least_memory.ensures.harts
    c.requires)
    c.new_boot-boot.ensures c.new_controller-control.ensures c.recall_tables.ensures
