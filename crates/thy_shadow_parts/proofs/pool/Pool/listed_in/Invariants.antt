use Rattle.std.proofs.Common.{◌≡◌, ℕ, ◌+◌, ◌*◌, ◌<◌, length}
use Rattle.thy_layout.specs.Entries.{entry_at}
use Rattle.thy_shadow_parts.specs.State.{next_table}
use Rattle.thy_shadow_parts.proofs.pool.Pool.listed_in.Given as goal

abbrev pub invariant-loop-i : goal.invariant-loop-i
invariant-loop-i l = (length l.entries ≡ 8) × ((j : ℕ) → j < l.i → entry_at l.entries j ≡ entry_at (next_table l.self) (8 * l.k + j))
