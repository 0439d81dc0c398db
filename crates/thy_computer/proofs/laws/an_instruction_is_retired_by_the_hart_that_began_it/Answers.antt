use Rattle.thy_computer.proofs.BegunLaws.{begun-is-retired}
use Rattle.thy_computer.proofs.laws.an_instruction_is_retired_by_the_hart_that_began_it.Goals as goal

pub returns : goal.returns
returns g = begun-is-retired
