use Rattle.thy_computer.proofs.ReachLaws.{finds-turns}
use Rattle.thy_computer.proofs.laws.turns_are_found_for_each_cycle.Goals as goal

pub returns : goal.returns
returns g = finds-turns
