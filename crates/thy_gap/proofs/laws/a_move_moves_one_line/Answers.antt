use Rattle.std.proofs.Common.{refl}
use Rattle.thy_gap.proofs.LineLemmas.{whole-moved}
use Rattle.thy_gap.proofs.RoundLemmas.{place-move_cases}
use Rattle.thy_gap.proofs.laws.a_move_moves_one_line.Goals as goal

pub returns-clause-one : goal.returns-clause-one
returns-clause-one c = place-move_cases

pub returns-clause-gap : goal.returns-clause-gap
returns-clause-gap c = λ r w. refl

pub returns-clause-whole : goal.returns-clause-whole
returns-clause-whole c = whole-moved
