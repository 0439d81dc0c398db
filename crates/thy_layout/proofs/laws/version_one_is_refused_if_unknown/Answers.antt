use Rattle.thy_layout.proofs.HeaderLemmas.{only_version_two}
use Rattle.thy_layout.proofs.laws.version_one_is_refused_if_unknown.Goals as goal

pub returns : goal.returns
returns c = only_version_two
