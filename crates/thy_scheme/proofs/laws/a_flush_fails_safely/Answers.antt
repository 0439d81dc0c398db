use Rattle.thy_scheme.proofs.FailRows.{flush_fails}
use Rattle.thy_scheme.proofs.laws.a_flush_fails_safely.Goals as goal

pub returns : goal.returns
returns g c = flush_fails g.S.Scheme.scheme
