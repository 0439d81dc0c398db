use Rattle.thy_computer.proofs.KeepsLemmas.{Keeps-cut, Keeps-empty}
use Rattle.thy_computer.proofs.checkpoint_laws.a_cut_keeps.Goals as goal

pub returns-clause-cut : goal.returns-clause-cut
returns-clause-cut c = Keeps-cut

pub returns-clause-empty : goal.returns-clause-empty
returns-clause-empty c = Keeps-empty
