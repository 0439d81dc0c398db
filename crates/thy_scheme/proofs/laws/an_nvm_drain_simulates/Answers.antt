use Rattle.thy_scheme.proofs.DrainRows.{nvm_drain_simulates}
use Rattle.thy_scheme.proofs.laws.an_nvm_drain_simulates.Goals as goal

pub returns : goal.returns
returns g c = nvm_drain_simulates g.S.Scheme.scheme
