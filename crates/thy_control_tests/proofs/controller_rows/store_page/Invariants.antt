use Rattle.std.specs.Prelude.{◌≡◌, false}
use Rattle.thy_control_tests.specs.Driven.{Drives}
use Rattle.thy_control_tests.proofs.controller_rows.store_page.Given as goal

abbrev pub invariant-loop-b : goal.invariant-loop-b
invariant-loop-b g l = record {
  drives : Drives l.control (g.N.Nvm.device l.nvm);
  idle : l.control.under_way ≡ false;
}
