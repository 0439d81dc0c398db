use Rattle.thy_control.proofs.CommitLemmas.{cell-committed}
use Rattle.thy_control.proofs.laws.a_commit_makes_cells.Goals as goal

pub returns : goal.returns
returns c s t b = cell-committed s t.btt_once t.ptt_once b
