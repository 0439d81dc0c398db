use Rattle.thy_scheme.proofs.FailRows.{hart_fails}
use Rattle.thy_scheme.proofs.laws.the_hart_fails_safely.Goals as goal

pub returns : goal.returns
returns g c = hart_fails g.S.Scheme.scheme
