use Rattle.thy_scheme.proofs.FlushRow.{flush_simulates}
use Rattle.thy_scheme.proofs.laws.a_flush_simulates.Goals as goal

pub returns : goal.returns
returns g c = flush_simulates g.S.Scheme.scheme
