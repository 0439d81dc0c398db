use Rattle.thy_computer.proofs.ReachLaws.{steps-reach}
use Rattle.thy_computer.proofs.laws.a_step_reaches_no_less.Goals as goal

pub returns : goal.returns
returns g = steps-reach
