use Rattle.thy_run.proofs.AlikeLaws.{two_runs_show_one}
use Rattle.thy_run.proofs.laws.two_runs_show_one.Goals as goal

pub returns : goal.returns
returns g c = two_runs_show_one g.M.Computer.kind g.met.M.Computer.lawful
