use Rattle.std.proofs.Common.{◌≡◌}
use Rattle.thy_block.specs.Device.{IsFramed}
use Rattle.thy_isa.specs.Step.{state_of}
use Rattle.thy_machine_tests.specs.LogParts.{Boots}
use Rattle.thy_machine_tests.proofs.log.parts.steps.Given as goal

abbrev pub invariant-loop : goal.invariant-loop
invariant-loop g l = record {
  boots : Boots (state_of l.start.state) (g.N.Nvm.device l.nvm) l.boot l.log;
  same_p : l.log.p ≡ l.fn.log.p;
  frame : IsFramed (g.N.Nvm.device l.fn.nvm) (g.N.Nvm.device l.nvm);
}
