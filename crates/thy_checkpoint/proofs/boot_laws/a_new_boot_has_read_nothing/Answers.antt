use Rattle.thy_checkpoint.proofs.ReadLemmas.{HasRead-new}
use Rattle.thy_checkpoint.proofs.boot_laws.a_new_boot_has_read_nothing.Goals as goal

pub returns : goal.returns
returns g c = HasRead-new g.F.Fills.filling
