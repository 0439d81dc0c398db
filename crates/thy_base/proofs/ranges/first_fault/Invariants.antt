use Rattle.std.proofs.Common.{◌≡◌, None, take}
use Rattle.std.specs.List.{flat_map}
use Rattle.thy_base.specs.Config.{rows_at}
use Rattle.thy_base.specs.Options.{fields}
use Rattle.thy_base.specs.Rows.{fault_in}
use Rattle.thy_base.proofs.ranges.first_fault.Given as goal

abbrev pub invariant-loop-field : goal.invariant-loop-field
invariant-loop-field l = fault_in (flat_map (rows_at l.c) (take l.field-index fields)) ≡ None
