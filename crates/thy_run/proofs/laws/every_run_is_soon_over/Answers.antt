use Rattle.thy_run.proofs.SoonLaws.{SoonOver-ran}
use Rattle.thy_run.proofs.laws.every_run_is_soon_over.Goals as goal

pub returns : goal.returns
returns g c = SoonOver-ran g.M.Computer.kind g.met.M.Computer.lawful
