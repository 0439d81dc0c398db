use Rattle.thy_scheme.proofs.DrainRows.{dram_drain_simulates}
use Rattle.thy_scheme.proofs.laws.a_dram_drain_simulates.Goals as goal

pub returns : goal.returns
returns g c = dram_drain_simulates g.S.Scheme.scheme
