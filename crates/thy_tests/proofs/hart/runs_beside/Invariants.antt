use Rattle.thy_block.specs.Store.{flat_list}
use Rattle.thy_hart.specs.Moments.{moment, IsReady}
use Rattle.thy_tests.proofs.hart.runs_beside.Given as goal

abbrev pub invariant-loop-turn : goal.invariant-loop-turn
invariant-loop-turn g l = IsReady (moment l.hart l.cache (flat_list l.blocks.items))
