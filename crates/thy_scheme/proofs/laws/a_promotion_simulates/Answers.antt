use Rattle.thy_scheme.proofs.CallRows.{promotion_simulates}
use Rattle.thy_scheme.proofs.laws.a_promotion_simulates.Goals as goal

pub returns : goal.returns
returns g c = promotion_simulates g.S.Scheme.scheme
