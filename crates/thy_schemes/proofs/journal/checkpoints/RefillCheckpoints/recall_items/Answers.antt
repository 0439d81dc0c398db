use Rattle.thy_journal_parts.proofs.DesignLemmas.{items_are}
use Rattle.thy_schemes.proofs.journal.checkpoints.RefillCheckpoints.recall_items.Goals as goal

pub returns : goal.returns
returns c = items_are
