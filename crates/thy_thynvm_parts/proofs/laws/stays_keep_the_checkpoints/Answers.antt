use Rattle.thy_thynvm_parts.proofs.LawLemmas.{stays_keep}
use Rattle.thy_thynvm_parts.proofs.laws.stays_keep_the_checkpoints.Goals as goal

pub returns : goal.returns
returns c = stays_keep
