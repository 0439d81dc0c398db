use Rattle.thy_computer.proofs.TurnLaws.{Safe-agrees}
use Rattle.thy_computer.proofs.laws.what_is_safe_stays_safe_with_turns_that_agree.Goals as goal

pub returns : goal.returns
returns g = Safe-agrees
