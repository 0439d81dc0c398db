use Rattle.thy_layout.proofs.SavedLemmas.{IsKept-cut, IsKept-empty}
use Rattle.thy_layout.proofs.crash_laws.what_is_left_is_kept.Goals as goal

pub returns-clause-cut : goal.returns-clause-cut
returns-clause-cut c = IsKept-cut

pub returns-clause-empty : goal.returns-clause-empty
returns-clause-empty c = IsKept-empty
