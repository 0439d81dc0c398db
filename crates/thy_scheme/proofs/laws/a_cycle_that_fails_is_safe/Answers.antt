use Rattle.thy_scheme.proofs.StepLaws.{failing_is_safe}
use Rattle.thy_scheme.proofs.laws.a_cycle_that_fails_is_safe.Goals as goal

pub returns : goal.returns
returns g c = failing_is_safe g.S.Scheme.scheme
