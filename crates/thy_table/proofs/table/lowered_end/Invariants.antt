use Rattle.std.proofs.Common.{◌-◌}
use Rattle.thy_table.specs.Listing.{AreLiveBelow}
use Rattle.thy_table.proofs.table.lowered_end.Given as goal

abbrev pub invariant-loop-past : goal.invariant-loop-past
invariant-loop-past g l = AreLiveBelow l.entries (l.end - l.past)
