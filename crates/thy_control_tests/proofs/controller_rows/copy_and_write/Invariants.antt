use Rattle.std.specs.Prelude.{◌≡◌, true}
use Rattle.thy_control_tests.specs.Driven.{Drives}
use Rattle.thy_control_tests.proofs.controller_rows.copy_and_write.Given as goal

abbrev pub invariant-loop : goal.invariant-loop
invariant-loop g l = record {
  drives : Drives l.control (g.N.Nvm.device l.nvm);
  way : l.control.under_way ≡ true;
}
