use Rattle.thy_scheme.proofs.FailRows.{promotion_leaves}
use Rattle.thy_scheme.proofs.laws.a_promotion_fails_safely.Goals as goal

pub returns : goal.returns
returns g c = promotion_leaves g.S.Scheme.scheme
