use Rattle.thy_computer.proofs.ReachLaws.{retires-reach}
use Rattle.thy_computer.proofs.laws.an_instruction_reaches_beyond_its_count.Goals as goal

pub returns : goal.returns
returns g = retires-reach
