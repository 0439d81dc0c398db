-- Part of the claim.
-- Which entries a checkpoint writes: every live one, and the block that it lists.
use Rattle.std.specs.Prelude.{ℕ, Bool, true, Option, Some, None}
use Rattle.thy_table.specs.Listing.{entry_at, next_from}
use Rattle.thy_journal_parts.specs.declared.entry.Listed.{Listed}
use Rattle.thy_journal_parts.specs.State.{State}

-- the test that every live entry passes
abbrev pub is_live : Listed → Bool
is_live e = true

-- the first live entry from one on
abbrev pub next_live : ℕ → State → Option ℕ
next_live from s = next_from is_live from s.table

-- the block that an entry lists, 0 if the entry is free
abbrev pub listed_by : Option Listed → ℕ
listed_by None = 0
listed_by (Some e) = e.block

abbrev pub block_listed : ℕ → State → ℕ
block_listed i s = listed_by (entry_at s.table i)
