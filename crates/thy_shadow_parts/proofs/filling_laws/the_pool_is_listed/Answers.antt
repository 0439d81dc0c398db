use Rattle.thy_shadow_parts.proofs.LawLemmas.{pool_is_listed}
use Rattle.thy_shadow_parts.proofs.filling_laws.the_pool_is_listed.Goals as goal

pub returns : goal.returns
returns c = pool_is_listed
