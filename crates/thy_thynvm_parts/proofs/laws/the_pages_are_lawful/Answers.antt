use Rattle.thy_thynvm_parts.proofs.PageLemmas.{is_paging}
use Rattle.thy_thynvm_parts.proofs.laws.the_pages_are_lawful.Goals as goal

pub returns : goal.returns
returns c = is_paging
