use Rattle.thy_layout.proofs.SavedLemmas.{IsReady-settled}
use Rattle.thy_layout.proofs.crash_laws.a_barrier_makes_ready.Goals as goal

pub returns : goal.returns
returns c = IsReady-settled
