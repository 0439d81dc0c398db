use Rattle.thy_thynvm_parts.proofs.LawLemmas.{ready_is_whole}
use Rattle.thy_thynvm_parts.proofs.laws.a_ready_store_is_whole.Goals as goal

pub returns : goal.returns
returns c = ready_is_whole
