-- The log while the table of a slot is listed in it, entry by entry.
use Rattle.std.specs.Prelude.{◌≡◌, ℕ, ◌<◌, ◌≤◌, List, None}
use Rattle.std.specs.Option.{option_map}
use Rattle.thy_block.specs.declared.block.Block.{Block}
use Rattle.thy_block.specs.declared.parameters.Parameters.{Parameters}
use Rattle.thy_layout.specs.Entries.{entry_at as listed_at}
use Rattle.thy_table.specs.Listing.{entry_at}
use Rattle.thy_images.specs.JournalSlots.{table_in}
use Rattle.thy_journal_parts.specs.Keys.{block_key}
use Rattle.thy_journal_parts.specs.State.{State, IsSoundState}

-- the entries below one list what the slot's do, and all others are free
pub record ListsUpTo (i : ℕ) (p : Parameters) (slot : List Block) (s : State) : Type 0 where
  pub state : IsSoundState s
  pub same_p : s.p ≡ p
  pub below : (j : ℕ) → j < i
      → option_map block_key (entry_at s.table j) ≡ listed_at (table_in p slot) j
  pub free : (j : ℕ) → i ≤ j → entry_at s.table j ≡ None
