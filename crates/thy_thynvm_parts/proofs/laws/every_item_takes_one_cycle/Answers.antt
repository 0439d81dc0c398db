use Rattle.thy_thynvm_parts.proofs.CycleLemmas.{items_count}
use Rattle.thy_thynvm_parts.proofs.laws.every_item_takes_one_cycle.Goals as goal

pub returns : goal.returns
returns c = items_count
