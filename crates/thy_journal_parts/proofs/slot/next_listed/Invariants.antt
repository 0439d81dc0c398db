use Rattle.std.proofs.Common.{◌≡◌, ℕ, ◌<◌, ◌≤◌, false, is_some}
use Rattle.thy_layout.specs.Files.{blocks_of}
use Rattle.thy_layout.specs.Entries.{entry_at}
use Rattle.thy_images.specs.JournalSlots.{table_in}
use Rattle.thy_journal_parts.proofs.slot.next_listed.Given as goal

abbrev pub invariant-loop-i : goal.invariant-loop-i
invariant-loop-i l = (j : ℕ) → l.fn.from ≤ j → j < l.i → is_some (entry_at (table_in l.geometry (blocks_of l.slot)) j) ≡ false
