use Rattle.thy_scheme.proofs.DrainRows.{boot_drain_simulates}
use Rattle.thy_scheme.proofs.laws.a_drain_of_the_boot_simulates.Goals as goal

pub returns : goal.returns
returns g c = boot_drain_simulates g.S.Scheme.scheme
