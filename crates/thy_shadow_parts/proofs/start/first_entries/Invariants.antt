use Rattle.std.proofs.Common.{◌≡◌, ℕ, ◌+◌, ◌*◌, ◌<◌, length}
use Rattle.thy_layout.specs.Entries.{entry_at}
use Rattle.thy_shadow_parts.specs.Filling.{first_table}
use Rattle.thy_shadow_parts.proofs.start.first_entries.Given as goal

abbrev pub invariant-loop-i : goal.invariant-loop-i
invariant-loop-i l = (length l.entries ≡ 8) × ((j : ℕ) → j < l.i → entry_at l.entries j ≡ entry_at (first_table l.geometry) (8 * l.k + j))
