use Rattle.thy_control.proofs.SealStateLemmas.{cell-sealed}
use Rattle.thy_control.proofs.laws.a_seal_makes_cells.Goals as goal

pub returns : goal.returns
returns c s t b = cell-sealed s t b
