use Rattle.std.proofs.Common.{◌≡◌, take}
use Rattle.std.specs.List.{count_by}
use Rattle.thy_table.specs.Listing.{passes}
use Rattle.thy_control.specs.Overlay.{is_overlaid}
use Rattle.thy_control.proofs.overlay.count_overlaid.Given as goal

abbrev pub invariant-loop-i : goal.invariant-loop-i
invariant-loop-i l = l.count ≡ count_by (passes (is_overlaid l.ptt)) (take l.i l.btt.entries)
