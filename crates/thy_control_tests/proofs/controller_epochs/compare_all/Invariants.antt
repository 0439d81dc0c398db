use Rattle.thy_control_tests.specs.Driven.{Drives}
use Rattle.thy_control_tests.proofs.controller_epochs.compare_all.Given as goal

abbrev pub invariant-loop-b : goal.invariant-loop-b
invariant-loop-b g l = Drives l.control (g.N.Nvm.device l.nvm)
