use Rattle.thy_computer.proofs.ReachLaws.{stays-there}
use Rattle.thy_computer.proofs.laws.what_retires_nothing_stays_there.Goals as goal

pub returns : goal.returns
returns g = stays-there
