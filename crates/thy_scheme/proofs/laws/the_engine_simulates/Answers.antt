use Rattle.thy_scheme.proofs.EngineRow.{engine_simulates}
use Rattle.thy_scheme.proofs.laws.the_engine_simulates.Goals as goal

pub returns : goal.returns
returns g c = engine_simulates g.S.Scheme.scheme
