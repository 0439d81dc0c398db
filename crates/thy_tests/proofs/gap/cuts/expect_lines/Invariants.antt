use Rattle.std.proofs.Common.{◌≡◌, false, length}
use Rattle.thy_tests.proofs.gap.cuts.expect_lines.Given as goal

abbrev pub invariant-loop-line : goal.invariant-loop-line
invariant-loop-line g l = record {
  lines : length (g.N.Nvm.device l.nvm).image ≡ 4;
  up : (g.N.Nvm.device l.nvm).down ≡ false;
}
