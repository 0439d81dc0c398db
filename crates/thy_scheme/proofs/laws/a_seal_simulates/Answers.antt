use Rattle.thy_scheme.proofs.SealRow.{seal_simulates}
use Rattle.thy_scheme.proofs.laws.a_seal_simulates.Goals as goal

pub returns : goal.returns
returns g c = seal_simulates g.S.Scheme.scheme
