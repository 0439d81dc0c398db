use Rattle.thy_layout.proofs.SavedLemmas.{left_of_saved}
use Rattle.thy_layout.proofs.crash_laws.a_cut_leaves_a_copy.Goals as goal

pub returns : goal.returns
returns c = left_of_saved
