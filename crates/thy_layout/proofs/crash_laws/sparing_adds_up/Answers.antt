use Rattle.thy_layout.proofs.SparesLemmas.{Spares-same, Spares-both, Spares-part}
use Rattle.thy_layout.proofs.crash_laws.sparing_adds_up.Goals as goal

pub returns-clause-none : goal.returns-clause-none
returns-clause-none c = Spares-same

pub returns-clause-both : goal.returns-clause-both
returns-clause-both c = Spares-both

pub returns-clause-part : goal.returns-clause-part
returns-clause-part c = Spares-part
