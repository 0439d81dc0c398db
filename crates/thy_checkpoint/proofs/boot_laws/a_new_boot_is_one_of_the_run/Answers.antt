use Rattle.thy_checkpoint.proofs.SafeLemmas.{new_is_sound}
use Rattle.thy_checkpoint.proofs.boot_laws.a_new_boot_is_one_of_the_run.Goals as goal

pub returns : goal.returns
returns g c = new_is_sound g.F.Fills.filling g.met.F.Fills.lawful
