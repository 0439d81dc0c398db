use Rattle.thy_scheme.proofs.BootRow.{boot_simulates}
use Rattle.thy_scheme.proofs.laws.the_boot_simulates.Goals as goal

pub returns : goal.returns
returns g c = boot_simulates g.S.Scheme.scheme
