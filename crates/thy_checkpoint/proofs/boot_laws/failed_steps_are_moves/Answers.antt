use Rattle.thy_checkpoint.proofs.SafeLemmas.{failures_move}
use Rattle.thy_checkpoint.proofs.boot_laws.failed_steps_are_moves.Goals as goal

pub returns : goal.returns
returns g c = failures_move g.F.Fills.filling g.met.F.Fills.lawful
