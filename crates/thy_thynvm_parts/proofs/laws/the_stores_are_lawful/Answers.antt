use Rattle.thy_thynvm_parts.proofs.StoreLemmas.{is_storing}
use Rattle.thy_thynvm_parts.proofs.laws.the_stores_are_lawful.Goals as goal

pub returns : goal.returns
returns c = is_storing
