use Rattle.thy_thynvm_parts.proofs.PartsLemmas.{are_parts}
use Rattle.thy_thynvm_parts.proofs.laws.thynvm_is_made_of_parts.Goals as goal

pub returns : goal.returns
returns c = are_parts
