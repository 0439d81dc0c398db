use Rattle.thy_layout.proofs.SavedLemmas.{IsKept-settled}
use Rattle.thy_layout.proofs.crash_laws.a_barrier_ends_the_doubt.Goals as goal

pub returns : goal.returns
returns c = IsKept-settled
