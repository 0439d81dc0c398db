use Rattle.thy_computer.proofs.TurnLaws.{at-steps}
use Rattle.thy_computer.proofs.laws.hart_zero_takes_one_step_after_another.Goals as goal

pub returns : goal.returns
returns g = at-steps
