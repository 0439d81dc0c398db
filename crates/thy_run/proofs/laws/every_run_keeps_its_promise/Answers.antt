use Rattle.thy_run.proofs.PromiseLaws.{Promise-stopped}
use Rattle.thy_run.proofs.laws.every_run_keeps_its_promise.Goals as goal

pub returns : goal.returns
returns g c = Promise-stopped g.M.Computer.kind g.met.M.Computer.lawful
