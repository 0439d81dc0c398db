use Rattle.thy_thynvm_parts.proofs.LawLemmas.{lawful}
use Rattle.thy_thynvm_parts.proofs.laws.thynvm_is_lawful.Goals as goal

pub returns : goal.returns
returns c = lawful
