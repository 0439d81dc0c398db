-- What is answered is complete: the result of an order in which nothing fails is the result of its program's own end.
use Rattle.std.specs.Prelude.{ℕ, List}
use Rattle.thy_outcome.specs.declared.answer.Answer.{Answer}
use Rattle.thy_outcome.specs.Answering.{Around, NvmOf, outside_of}
use Rattle.thy_outcome.specs.Machines.{Choice}
use Rattle.thy_outcome.specs.Orders.{Answered}
use Rattle.thy_outcome.specs.Calm.{CompareCompletes, MakeCompletes, PairCompletes, PlainCompletes, RunCompletes}

-- the answer to an order of a run with one hart is complete
abbrev pub AnsweredRunCompletes : {N : Type 0} → Choice → NvmOf N → Type 0
AnsweredRunCompletes {N = N} c d =
    (words : List (List ℕ)) (before after : Around N) (a : Answer) → Answered c d words before after a
    → RunCompletes c words (outside_of d before) (outside_of d after) a

-- the answer to an order of a run with two harts is complete
abbrev pub AnsweredPairCompletes : {N : Type 0} → Choice → NvmOf N → Type 0
AnsweredPairCompletes {N = N} c d =
    (words : List (List ℕ)) (before after : Around N) (a : Answer) → Answered c d words before after a
    → PairCompletes c words (outside_of d before) (outside_of d after) a

-- the answer to the order of a comparison is complete
abbrev pub AnsweredCompareCompletes : {N : Type 0} → Choice → NvmOf N → Type 0
AnsweredCompareCompletes {N = N} c d =
    (words : List (List ℕ)) (before after : Around N) (a : Answer) → Answered c d words before after a
    → CompareCompletes c words (outside_of d before) (outside_of d after) a

-- the answer to the order of a run on the plain machine is complete
abbrev pub AnsweredPlainCompletes : {N : Type 0} → Choice → NvmOf N → Type 0
AnsweredPlainCompletes {N = N} c d =
    (words : List (List ℕ)) (before after : Around N) (a : Answer) → Answered c d words before after a
    → PlainCompletes words (outside_of d before) (outside_of d after) a

-- the answer to the order of a made program is complete
abbrev pub AnsweredMakeCompletes : {N : Type 0} → Choice → NvmOf N → Type 0
AnsweredMakeCompletes {N = N} c d =
    (words : List (List ℕ)) (before after : Around N) (a : Answer) → Answered c d words before after a
    → MakeCompletes words (outside_of d before) (outside_of d after) a
