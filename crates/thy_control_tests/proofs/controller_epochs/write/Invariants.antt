use Rattle.thy_control_tests.specs.Driven.{Drives}
use Rattle.thy_control_tests.proofs.controller_epochs.write.Given as goal

abbrev pub invariant-loop : goal.invariant-loop
invariant-loop g l = Drives l.control (g.N.Nvm.device l.nvm)
