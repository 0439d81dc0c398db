use Rattle.thy_checkpoint.proofs.ItemLemmas.{items_count, cycles_are_few}
use Rattle.thy_checkpoint.proofs.engine_laws.every_item_takes_a_cycle.Goals as goal

pub returns-clause-count : goal.returns-clause-count
returns-clause-count g c = items_count g.E.Fills.filling g.E.Checkpoints.items g.met.E.Fills.lawful.laid c.recall_items.ensures

pub returns-clause-few : goal.returns-clause-few
returns-clause-few g c = cycles_are_few g.E.Fills.filling g.E.Checkpoints.items g.met.E.Fills.lawful.laid c.recall_items.ensures
