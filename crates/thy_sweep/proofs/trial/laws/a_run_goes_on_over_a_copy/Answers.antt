use Rattle.thy_sweep.proofs.CopyLemmas.{goes_on_over_copy}
use Rattle.thy_sweep.proofs.trial.laws.a_run_goes_on_over_a_copy.Goals as goal

pub returns : goal.returns
returns g c = goes_on_over_copy g.M.Computer.kind g.met.M.Computer.lawful
