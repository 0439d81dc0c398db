use Rattle.thy_run.proofs.BusyLaws.{Busy-ran}
use Rattle.thy_run.proofs.laws.every_run_is_busy.Goals as goal

pub returns : goal.returns
returns g c = Busy-ran g.M.Computer.kind g.met.M.Computer.lawful
