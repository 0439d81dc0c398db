use Rattle.thy_computer.proofs.TurnLaws.{at-without_turns}
use Rattle.thy_computer.proofs.laws.a_run_without_turns_is_hart_zeros.Goals as goal

pub returns : goal.returns
returns g = at-without_turns
