use Rattle.thy_checkpoint.proofs.ActLemmas.{steps_fill}
use Rattle.thy_checkpoint.proofs.boot_laws.steps_queue_one_write.Goals as goal

pub returns : goal.returns
returns g c = steps_fill g.F.Fills.filling g.met.F.Fills.lawful
