use Rattle.std.proofs.Common.{◌≡◌, ◌++◌, take, string_bytes}
use Rattle.std.specs.List.{flat_map}
use Rattle.observe.specs.AccessText.{access_row}
use Rattle.observe.proofs.accesses.add_accesses.Given as goal

abbrev pub invariant-loop-row : goal.invariant-loop-row
invariant-loop-row l = string_bytes l.table ≡ string_bytes l.fn.table ++ flat_map access_row (take l.row-index l.rows)
