use Rattle.thy_scheme.proofs.FailRows.{drain_fails}
use Rattle.thy_scheme.proofs.laws.a_drain_fails_safely.Goals as goal

pub returns : goal.returns
returns g c = drain_fails g.S.Scheme.scheme
