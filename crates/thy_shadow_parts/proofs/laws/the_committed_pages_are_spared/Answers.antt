use Rattle.thy_shadow_parts.proofs.DesignLemmas.{spared}
use Rattle.thy_shadow_parts.proofs.laws.the_committed_pages_are_spared.Goals as goal

pub returns : goal.returns
returns c = spared
