use Rattle.thy_checkpoint.proofs.ItemLemmas.{items_fit}
use Rattle.thy_checkpoint.proofs.engine_laws.items_keep_them_together.Goals as goal

pub returns : goal.returns
returns g c = items_fit g.E.Fills.filling g.E.Checkpoints.items c.recall_items.ensures
