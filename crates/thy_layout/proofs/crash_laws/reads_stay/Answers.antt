use Rattle.thy_layout.proofs.FixedLemmas.{Reads-written, Reads-elsewhere, Reads-drained, Reads-settled, Reads-fixed}
use Rattle.thy_layout.proofs.crash_laws.reads_stay.Goals as goal

pub returns-clause-written : goal.returns-clause-written
returns-clause-written c = Reads-written

pub returns-clause-elsewhere : goal.returns-clause-elsewhere
returns-clause-elsewhere c = Reads-elsewhere

pub returns-clause-drain : goal.returns-clause-drain
returns-clause-drain c = Reads-drained

pub returns-clause-barrier : goal.returns-clause-barrier
returns-clause-barrier c = Reads-settled

pub returns-clause-fixed : goal.returns-clause-fixed
returns-clause-fixed c = Reads-fixed
