use Rattle.thy_run.proofs.BusyLaws.{NeverRests-ran}
use Rattle.thy_run.proofs.laws.no_cycle_of_a_run_rests.Goals as goal

pub returns : goal.returns
returns g c = NeverRests-ran g.M.Computer.kind
