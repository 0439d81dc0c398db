use Rattle.thy_scheme.proofs.RunLaws.{fresh_simulates}
use Rattle.thy_scheme.proofs.laws.a_fresh_start_simulates.Goals as goal

pub returns : goal.returns
returns g c = fresh_simulates g.S.Scheme.scheme
