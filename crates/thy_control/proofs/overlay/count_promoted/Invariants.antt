use Rattle.std.proofs.Common.{◌≡◌, take}
use Rattle.std.specs.List.{count_by}
use Rattle.thy_table.specs.Listing.{passes}
use Rattle.thy_control.specs.Holding.{is_promoted}
use Rattle.thy_control.proofs.overlay.count_promoted.Given as goal

abbrev pub invariant-loop-j : goal.invariant-loop-j
invariant-loop-j l = l.count ≡ count_by (passes is_promoted) (take l.j l.ptt.entries)
