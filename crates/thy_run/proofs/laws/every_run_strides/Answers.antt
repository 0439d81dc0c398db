use Rattle.thy_run.proofs.StrideLaws.{Strides-stopped}
use Rattle.thy_run.proofs.laws.every_run_strides.Goals as goal

pub returns : goal.returns
returns g c = Strides-stopped g.M.Computer.kind
