use Rattle.thy_checkpoint.proofs.SafeLemmas.{sound_is_safe}
use Rattle.thy_checkpoint.proofs.boot_laws.a_boot_is_safe.Goals as goal

pub returns : goal.returns
returns g c = sound_is_safe g.F.Fills.filling g.met.F.Fills.lawful
