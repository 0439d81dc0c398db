use Rattle.thy_gap.proofs.LineLemmas.{place-one_to_one, place-within, place-past_gap, place-onto}
use Rattle.thy_gap.proofs.RoundLemmas.{place-rotated}
use Rattle.thy_gap.proofs.laws.places_are_one_to_one.Goals as goal

pub returns-clause-rotated : goal.returns-clause-rotated
returns-clause-rotated c = place-rotated

pub returns-clause-one_to_one : goal.returns-clause-one_to_one
returns-clause-one_to_one c = place-one_to_one

pub returns-clause-beside : goal.returns-clause-beside
returns-clause-beside c = λ r x w l. (place-within r x w l, place-past_gap r x)

pub returns-clause-onto : goal.returns-clause-onto
returns-clause-onto c = place-onto
