-- Part of the claim.
-- The log: a table of blocks of memory, and for each entry of it a buffer in the DRAM, which holds the block as it
-- was stored last. Every other block is at home in the NVM.
use Rattle.std.specs.Prelude.{◌≡◌, ℕ, length, List, map, Option, Some, None}
use Rattle.std.specs.Option.{option_map}
use Rattle.thy_block.specs.declared.block.Block.{Block}
use Rattle.thy_block.specs.declared.parameters.Parameters.{Parameters}
use Rattle.thy_block.specs.Device.{Device, block_at, newest}
use Rattle.thy_block.specs.Geometry.{IsInRange, memory_blocks}
use Rattle.thy_block.specs.Places.{dram_blocks}
use Rattle.thy_dram.specs.Contents.{Contents}
use Rattle.thy_table.specs.Listing.{Listing, IsListing, index_of, empty_table}
use Rattle.thy_images.specs.JournalPlaces.{image_blocks, home_place}
use Rattle.thy_journal_parts.specs.declared.entry.Listed.{Listed}
use Rattle.thy_journal_parts.specs.Keys.{block_key}

pub record State : Type 0 where
  pub p : Parameters
  pub table : Listing Listed
  pub dram : Contents

abbrev pub state_in : Parameters → Listing Listed → Contents → State
state_in p table dram = record { p = p; table = table; dram = dram }

-- the table lists blocks of memory, none twice, and the sizes fit
pub record IsSoundState (s : State) : Type 0 where
  pub range : IsInRange s.p
  pub size : length s.table.entries ≡ s.p.btt
  pub numbers : s.table.numbers ≡ memory_blocks s.p
  pub once : IsListing block_key s.table
  pub dram_size : length s.dram.blocks ≡ dram_blocks s.p

-- the NVM has the blocks that the places ask for
pub record IsSized (s : State) (n : Device) : Type 0 where
  pub nvm : length n.image ≡ image_blocks s.p

-- the table of a checkpoint of it: at each live entry the block that this lists
abbrev pub table_of : State → List (Option ℕ)
table_of s = map (option_map block_key) s.table.entries

-- the entry that lists a block
abbrev pub entry_for : State → ℕ → Option ℕ
entry_for s b = index_of block_key b s.table

-- what a read of a block's home gives, and what the buffer of an entry holds
abbrev pub home_of : State → Device → ℕ → Block
home_of s n b = newest n (home_place s.p b)

abbrev pub buffer_of : State → ℕ → Block
buffer_of s i = block_at s.dram.blocks i

-- a block as it was stored last, by the entry that lists it: in its buffer, else at home
abbrev pub work_by : State → Device → ℕ → Option ℕ → Block
work_by s n b None = home_of s n b
work_by s n b (Some i) = buffer_of s i

abbrev pub work_of : State → Device → ℕ → Block
work_of s n b = work_by s n b (entry_for s b)

-- the log of a machine whose power came on: every entry is free
abbrev pub new_state : Parameters → Contents → State
new_state p dram = state_in p (empty_table p.btt (memory_blocks p)) dram
