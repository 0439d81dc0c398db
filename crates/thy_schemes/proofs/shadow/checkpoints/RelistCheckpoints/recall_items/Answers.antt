use Rattle.thy_shadow_parts.proofs.DesignLemmas.{items_are}
use Rattle.thy_schemes.proofs.shadow.checkpoints.RelistCheckpoints.recall_items.Goals as goal

pub returns : goal.returns
returns c = items_are
