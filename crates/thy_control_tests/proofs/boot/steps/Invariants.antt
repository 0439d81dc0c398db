use Rattle.std.proofs.Common.{◌≡◌}
use Rattle.thy_block.specs.Device.{IsFramed}
use Rattle.thy_isa.specs.Step.{state_of}
use Rattle.thy_control_tests.specs.Boots.{Boots}
use Rattle.thy_control_tests.proofs.boot.steps.Given as goal

abbrev pub invariant-loop-taken : goal.invariant-loop-taken
invariant-loop-taken g l = record {
  boots : Boots (state_of l.start.state) (g.N.Nvm.device l.nvm) l.boot l.control;
  same_p : l.control.p ≡ l.fn.control.p;
  frame : IsFramed (g.N.Nvm.device l.fn.nvm) (g.N.Nvm.device l.nvm);
}
