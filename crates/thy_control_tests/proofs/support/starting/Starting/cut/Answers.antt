use Rattle.std.proofs.Common.{◌∙◌, arith}
use Rattle.thy_control_tests.proofs.StartingLemmas.{IsOff-cut}
use Rattle.thy_control_tests.proofs.support.starting.Starting.cut.Goals as goal

pub invariant_of-result : goal.invariant_of-result
invariant_of-result g c =
    IsOff-cut c.self.inside.geometry c.self.inside.control c.self.inside.nvm.device c.cut.new.self.device c.args.pick c.cut-2.result
    c.self.inside.cuts c.recall_tables.ensures (c.self.invariant.boots.same_p ∙ c.self.invariant.same_p) c.self.invariant.blocks
    c.self.invariant.sized c.self.invariant.room c.cut.ensures.cut c.cut-2.ensures (grind arith)
