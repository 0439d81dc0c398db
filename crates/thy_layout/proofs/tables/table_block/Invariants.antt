use Rattle.std.proofs.Common.{◌≡◌, ℕ, ◌<◌, length, slice_index}
use Rattle.thy_layout.specs.Entries.{entry_word}
use Rattle.thy_layout.specs.Entries.{entry_at}
use Rattle.thy_layout.proofs.tables.table_block.Given as goal

abbrev pub invariant-loop-i : goal.invariant-loop-i
invariant-loop-i l =
    (length l.words ≡ 8) × ((j : ℕ) → j < l.i → slice_index l.words j ≡ entry_word (entry_at l.entries j))
