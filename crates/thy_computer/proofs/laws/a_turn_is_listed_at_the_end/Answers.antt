use Rattle.thy_computer.proofs.TurnLaws.{last-with_turns}
use Rattle.thy_computer.proofs.laws.a_turn_is_listed_at_the_end.Goals as goal

pub returns : goal.returns
returns g = last-with_turns
