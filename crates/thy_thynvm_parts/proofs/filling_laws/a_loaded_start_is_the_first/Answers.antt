use Rattle.thy_thynvm_parts.proofs.BootedLemmas.{loaded_is_started}
use Rattle.thy_thynvm_parts.proofs.filling_laws.a_loaded_start_is_the_first.Goals as goal

pub returns : goal.returns
returns c = loaded_is_started
