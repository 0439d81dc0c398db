use Rattle.thy_computer.proofs.AgainLaws.{goes_on_after_fault}
use Rattle.thy_computer.proofs.laws.a_run_goes_on_after_a_fault.Goals as goal

pub returns : goal.returns
returns g c = goes_on_after_fault g.M.Computer.kind g.met.M.Computer.lawful
