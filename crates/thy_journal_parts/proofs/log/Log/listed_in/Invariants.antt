use Rattle.std.proofs.Common.{◌≡◌, ℕ, ◌+◌, ◌*◌, ◌<◌, length}
use Rattle.thy_layout.specs.Entries.{entry_at}
use Rattle.thy_journal_parts.specs.State.{table_of}
use Rattle.thy_journal_parts.proofs.log.Log.listed_in.Given as goal

abbrev pub invariant-loop-i : goal.invariant-loop-i
invariant-loop-i l = (length l.entries ≡ 8) × ((j : ℕ) → j < l.i → entry_at l.entries j ≡ entry_at (table_of l.self) (8 * l.k + j))
