use Rattle.thy_shadow_parts.proofs.PartsLemmas.{are_parts}
use Rattle.thy_shadow_parts.proofs.laws.shadow_paging_is_made_of_parts.Goals as goal

pub returns : goal.returns
returns c = are_parts
