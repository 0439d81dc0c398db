use Rattle.thy_hart.specs.Moments.{moment, IsReady}
use Rattle.thy_tests.specs.Scarce.{scarce}
use Rattle.thy_tests.proofs.hart.answers.Given as goal

abbrev pub invariant-loop-i : goal.invariant-loop-i
invariant-loop-i g l = IsReady (moment l.hart l.cache (scarce l.store.blocks.items l.store.free l.store.copies l.store.page))
