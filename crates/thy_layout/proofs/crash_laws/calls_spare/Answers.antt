use Rattle.thy_layout.proofs.SparesLemmas.{Spares-drained, Spares-settled, Spares-written, Spares-failed, Spares-unsettled, Spares-failed_to_write}
use Rattle.thy_layout.proofs.crash_laws.calls_spare.Goals as goal

pub returns-clause-drain : goal.returns-clause-drain
returns-clause-drain c = Spares-drained

pub returns-clause-barrier : goal.returns-clause-barrier
returns-clause-barrier c = Spares-settled

pub returns-clause-write : goal.returns-clause-write
returns-clause-write c = Spares-written

pub returns-clause-failed : goal.returns-clause-failed
returns-clause-failed c = Spares-failed

pub returns-clause-failed_barrier : goal.returns-clause-failed_barrier
returns-clause-failed_barrier c = Spares-unsettled

pub returns-clause-failed_write : goal.returns-clause-failed_write
returns-clause-failed_write c = Spares-failed_to_write
