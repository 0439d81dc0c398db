use Rattle.thy_checkpoint.proofs.SafeLemmas.{steps_move}
use Rattle.thy_checkpoint.proofs.boot_laws.steps_are_moves.Goals as goal

pub returns : goal.returns
returns g c = steps_move g.F.Fills.filling g.met.F.Fills.lawful
