use Rattle.thy_isa.proofs.HartLaws.{step_of-harts, step_of-alone}
use Rattle.thy_isa.proofs.laws.what_a_step_of_a_hart_is.Goals as goal

pub returns-clause-harts : goal.returns-clause-harts
returns-clause-harts c = step_of-harts

pub returns-clause-alone : goal.returns-clause-alone
returns-clause-alone c = step_of-alone
