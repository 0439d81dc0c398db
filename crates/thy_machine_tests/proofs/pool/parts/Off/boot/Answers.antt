use Rattle.std.proofs.Common.{◌∙◌, ap}
use Rattle.thy_isa.specs.Step.{state_of}
use Rattle.thy_shadow_parts.specs.State.{State}
use Rattle.thy_machine_tests.proofs.PoolLemmas.{AreParts-begun, Boots-of}
use Rattle.thy_machine_tests.proofs.LeastLemmas.{CanStart-least, HasRoom-framed}
use Rattle.thy_machine_tests.proofs.pool.parts.Off.boot.Goals as goal

pub steps-reported-requires-clause-boots : goal.steps-reported-requires-clause-boots
steps-reported-requires-clause-boots g c =
    let p = c.self.inside.geometry in
    let s = state_of c.args.start.now.state in
    let least = c.has_least_memory.ensures in
    Boots-of p s c.self.inside.dram c.self.inside.nvm.device c.new_boot-boot.result c.new_pool-pool.result
    (CanStart-least p s least.in_range least.pages least.console least.harts c.requires.start) c.new_boot-boot.ensures c.new_pool-pool.ensures c.recall_sound.ensures
    c.self.invariant.sized c.self.invariant.settled c.self.invariant.up

pub invariant_of-parts : goal.invariant_of-parts
invariant_of-parts g c =
    AreParts-begun c.self.inside.geometry c.steps-reported.new.pool c.new-engine.result c.steps-reported.new.nvm.device c.self.inside.cuts
    (c.steps-reported.ensures.same_p ∙ ap (λ (s : State). s.p) c.new_pool-pool.ensures) c.recall_sound-2.ensures c.new-engine.ensures c.self.invariant.blocks
    (c.steps-reported.ensures.frame.blocks ∙ c.self.invariant.sized) c.steps-reported.ensures.up
    (HasRoom-framed c.self.inside.nvm.device c.steps-reported.new.nvm.device c.self.inside.cuts c.self.invariant.room c.steps-reported.ensures.frame)
