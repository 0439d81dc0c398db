use Rattle.thy_thynvm_parts.proofs.BootedLemmas.{restored_is_booted}
use Rattle.thy_thynvm_parts.proofs.filling_laws.a_restart_is_the_kept_one.Goals as goal

pub returns : goal.returns
returns c = restored_is_booted
