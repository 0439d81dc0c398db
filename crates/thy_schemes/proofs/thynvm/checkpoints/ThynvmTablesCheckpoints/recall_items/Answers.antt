use Rattle.thy_thynvm_parts.proofs.ItemLemmas.{items_are}
use Rattle.thy_schemes.proofs.thynvm.checkpoints.ThynvmTablesCheckpoints.recall_items.Goals as goal

pub returns : goal.returns
returns c = items_are
