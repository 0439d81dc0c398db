use Rattle.thy_thynvm_parts.proofs.FillingLemmas.{filling_is_lawful}
use Rattle.thy_thynvm_parts.proofs.filling_laws.the_filling_is_lawful.Goals as goal

pub returns : goal.returns
returns c = filling_is_lawful
