use Rattle.std.proofs.Common.{◌≡◌}
use Rattle.thy_block.specs.Device.{IsFramed}
use Rattle.thy_isa.specs.Step.{state_of}
use Rattle.thy_machine_tests.specs.PoolParts.{Boots}
use Rattle.thy_machine_tests.proofs.pool.parts.steps.Given as goal

abbrev pub invariant-loop : goal.invariant-loop
invariant-loop g l = record {
  boots : Boots (state_of l.start.state) (g.N.Nvm.device l.nvm) l.boot l.pool;
  same_p : l.pool.p ≡ l.fn.pool.p;
  frame : IsFramed (g.N.Nvm.device l.fn.nvm) (g.N.Nvm.device l.nvm);
}
