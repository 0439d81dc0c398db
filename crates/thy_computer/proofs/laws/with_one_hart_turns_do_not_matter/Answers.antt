use Rattle.thy_computer.proofs.OneHartLaws.{turns-alone}
use Rattle.thy_computer.proofs.laws.with_one_hart_turns_do_not_matter.Goals as goal

pub returns : goal.returns
returns g = turns-alone
