use Rattle.std.proofs.Common.{◌≡◌, false}
use Rattle.thy_block.specs.Device.{IsFramed}
use Rattle.thy_tests.proofs.gap.cuts.steps.Given as goal

abbrev pub invariant-loop-i : goal.invariant-loop-i
invariant-loop-i g l = record {
  up : (g.N.Nvm.device l.nvm).down ≡ false;
  frame : IsFramed (g.N.Nvm.device l.fn.nvm) (g.N.Nvm.device l.nvm);
}
