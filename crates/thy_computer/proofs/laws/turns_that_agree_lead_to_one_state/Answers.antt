use Rattle.thy_computer.proofs.TurnLaws.{at-agrees}
use Rattle.thy_computer.proofs.laws.turns_that_agree_lead_to_one_state.Goals as goal

pub returns : goal.returns
returns g = at-agrees
