use Rattle.std.proofs.Common.{arith}
use Rattle.thy_machine_tests.proofs.LogLemmas.{IsOff-cut}
use Rattle.thy_machine_tests.proofs.log.parts.Parts.cut.Goals as goal

pub invariant_of-result : goal.invariant_of-result
invariant_of-result g c =
    IsOff-cut c.self.inside.geometry c.self.inside.log c.self.inside.engine c.self.inside.nvm.device c.cut.new.self.device c.args.pick
    c.cut-2.result c.self.inside.cuts c.recall_sound.ensures c.self.invariant c.cut.ensures.cut c.cut-2.ensures (grind arith)
