use Rattle.thy_control.specs.Holding.{holding_of}
use Rattle.thy_control_tests.specs.Beside.{Takes}
use Rattle.thy_control_tests.proofs.controller.calls.Given as goal

abbrev pub invariant-loop : goal.invariant-loop
invariant-loop g l = Takes (holding_of l.control (g.N.Nvm.device l.nvm))
