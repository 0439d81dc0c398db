use Rattle.thy_thynvm_parts.proofs.ItemLemmas.{items_are}
use Rattle.thy_thynvm_parts.proofs.laws.the_items_are_lawful.Goals as goal

pub returns : goal.returns
returns c = items_are
