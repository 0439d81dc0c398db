use Rattle.thy_scheme.proofs.DrainRows.{halt_simulates}
use Rattle.thy_scheme.proofs.laws.a_halted_cycle_simulates.Goals as goal

pub returns : goal.returns
returns g c = halt_simulates g.S.Scheme.scheme
