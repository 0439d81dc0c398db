use Rattle.thy_layout.proofs.SavedLemmas.{IsSaved-spared}
use Rattle.thy_layout.proofs.crash_laws.spared_stays.Goals as goal

pub returns : goal.returns
returns c = IsSaved-spared
