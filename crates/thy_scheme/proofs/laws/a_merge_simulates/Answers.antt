use Rattle.thy_scheme.proofs.CallRows.{merge_simulates}
use Rattle.thy_scheme.proofs.laws.a_merge_simulates.Goals as goal

pub returns : goal.returns
returns g c = merge_simulates g.S.Scheme.scheme
