use Rattle.thy_computer.proofs.KeepsLemmas.{Safe-moves}
use Rattle.thy_computer.proofs.checkpoint_laws.moves_are_safe.Goals as goal

pub returns : goal.returns
returns c = Safe-moves
