use Rattle.thy_scheme.proofs.RunLaws.{moment_is_safe}
use Rattle.thy_scheme.proofs.laws.a_moment_is_safe.Goals as goal

pub returns : goal.returns
returns g c = moment_is_safe g.S.Scheme.scheme
