use Rattle.thy_computer.proofs.OneHartLaws.{has-turn}
use Rattle.thy_computer.proofs.laws.with_one_hart_each_cycle_has_its_turn.Goals as goal

pub returns : goal.returns
returns g = has-turn
