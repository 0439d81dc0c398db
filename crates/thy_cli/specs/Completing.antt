-- Part of the claim.
-- What is claimed of a call.
use Rattle.std.specs.Prelude.{ℕ, List}
use Rattle.thy_outcome.specs.declared.answer.Answer.{Answer}
use Rattle.thy_outcome.specs.Answering.{Around, NvmOf, outside_of}
use Rattle.thy_outcome.specs.Machines.{Choice}
use Rattle.thy_outcome.specs.Orders.{Answered}
use Rattle.thy_outcome.specs.Calm.{CompareCompletes, MakeCompletes, PairCompletes, PlainCompletes, RunCompletes}

-- What is claimed of a call: what its result is, and that this is complete.
pub record Claim {N : Type 0} (c : Choice) (d : NvmOf N) (words : List (List ℕ)) (before after : Around N) (a : Answer) : Type 0 where
  pub answered : Answered c d words before after a
  pub complete_run : RunCompletes c words (outside_of d before) (outside_of d after) a
  pub complete_pair : PairCompletes c words (outside_of d before) (outside_of d after) a
  pub complete_compare : CompareCompletes c words (outside_of d before) (outside_of d after) a
  pub complete_plain : PlainCompletes words (outside_of d before) (outside_of d after) a
  pub complete_make : MakeCompletes words (outside_of d before) (outside_of d after) a
