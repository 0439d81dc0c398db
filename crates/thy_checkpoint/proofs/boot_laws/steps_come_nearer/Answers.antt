use Rattle.thy_checkpoint.proofs.ActLemmas.{steps_come_nearer}
use Rattle.thy_checkpoint.proofs.boot_laws.steps_come_nearer.Goals as goal

pub returns : goal.returns
returns g c = steps_come_nearer g.F.Fills.filling g.met.F.Fills.lawful
