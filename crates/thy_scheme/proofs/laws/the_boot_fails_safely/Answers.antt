use Rattle.thy_scheme.proofs.FailRows.{boot_leaves}
use Rattle.thy_scheme.proofs.laws.the_boot_fails_safely.Goals as goal

pub returns : goal.returns
returns g c = boot_leaves g.S.Scheme.scheme
