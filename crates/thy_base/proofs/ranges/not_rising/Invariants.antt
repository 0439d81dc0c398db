use Rattle.std.proofs.Common.{◌≡◌, drop}
use Rattle.thy_base.specs.Rows.{fault_in}
use Rattle.thy_base.specs.Config.{rising_rows}
use Rattle.thy_base.proofs.ranges.not_rising.Given as goal

abbrev pub invariant-loop-cut : goal.invariant-loop-cut
invariant-loop-cut l = fault_in (rising_rows l.before (drop l.cut-index l.cuts)) ≡ fault_in (rising_rows 0 l.cuts)
