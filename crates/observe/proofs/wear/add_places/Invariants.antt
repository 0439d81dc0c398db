use Rattle.std.proofs.Common.{◌≡◌, ◌++◌, ◌-◌, length, string_bytes}
use Rattle.observe.specs.CountText.{wear_row}
use Rattle.observe.specs.StateText.{rows_from}
use Rattle.observe.proofs.wear.add_places.Given as goal

abbrev pub invariant-loop-at : goal.invariant-loop-at
invariant-loop-at l =
    string_bytes l.text ++ rows_from (wear_row l.wear) l.at (length l.wear - l.at)
    ≡ string_bytes l.fn.text ++ rows_from (wear_row l.wear) 0 (length l.wear)
