use Rattle.thy_control.specs.Holding.{holding_of}
use Rattle.thy_control_tests.specs.Beside.{Takes}
use Rattle.thy_control_tests.proofs.controller.compare.Given as goal

abbrev pub invariant-loop-b : goal.invariant-loop-b
invariant-loop-b g l = Takes (holding_of l.control (g.N.Nvm.device l.nvm))
