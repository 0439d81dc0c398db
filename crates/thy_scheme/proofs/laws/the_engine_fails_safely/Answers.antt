use Rattle.thy_scheme.proofs.FailRows.{engine_leaves}
use Rattle.thy_scheme.proofs.laws.the_engine_fails_safely.Goals as goal

pub returns : goal.returns
returns g c = engine_leaves g.S.Scheme.scheme
