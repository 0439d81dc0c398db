use Rattle.thy_scheme.proofs.StepLaws.{simulating_is_step}
use Rattle.thy_scheme.proofs.laws.a_cycle_that_simulates_is_a_step.Goals as goal

pub returns : goal.returns
returns g c = simulating_is_step g.S.Scheme.scheme
