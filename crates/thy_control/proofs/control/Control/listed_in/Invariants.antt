use Rattle.std.proofs.Common.{◌≡◌, ℕ, ◌+◌, ◌*◌, ◌<◌, ◌≤◌, ◌++◌, None, length, map, option_and_then}
use Rattle.thy_layout.specs.Entries.{entry_at}
use Rattle.thy_control.specs.TableBlocks.{block_due, page_due}
use Rattle.thy_control.proofs.control.Control.listed_in.Given as goal

abbrev pub invariant-loop-i : goal.invariant-loop-i
invariant-loop-i l =
    (length l.entries ≡ 8)
    × ((j : ℕ) → j < l.i → entry_at l.entries j
    ≡ entry_at (map (option_and_then block_due) l.self-inside.btt.entries ++ map (option_and_then page_due) l.self-inside.ptt.entries) (8 * l.k + j))
    × ((j : ℕ) → l.i ≤ j → entry_at l.entries j ≡ None)
