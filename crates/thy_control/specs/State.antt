-- Part of the claim.
-- The state of the controller, the versions of each block, and what the tables have to be.
use Rattle.std.specs.Prelude.{◌≡◌, ◌≢◌, ℕ, ◌<◌, Bool, true, false, length, Some}
use Rattle.thy_block.specs.declared.block.Block.{Block}
use Rattle.thy_block.specs.declared.parameters.Parameters.{Parameters}
use Rattle.thy_table.specs.declared.place.Place.{Place}
use Rattle.thy_block.specs.Device.{Device}
use Rattle.thy_block.specs.Geometry.{IsInRange, memory_blocks}
use Rattle.thy_table.specs.Places.{image_blocks}
use Rattle.thy_block.specs.Places.{dram_blocks}
use Rattle.thy_block.specs.Store.{page_of}
use Rattle.thy_dram.specs.Contents.{Contents}
use Rattle.thy_table.specs.Devices.{devices_of, read_at}
use Rattle.thy_table.specs.Listing.{Listing, IsListing, entry_at, empty_table}
use Rattle.thy_table.specs.declared.block_entry.BttEntry.{BttEntry}
use Rattle.thy_table.specs.declared.block_entry.Version.TheVariants.{Out}
use Rattle.thy_table.specs.declared.block_entry.Working.TheVariants.{NoWork}
use Rattle.thy_table.specs.declared.page_entry.PttEntry.{PttEntry}
use Rattle.thy_table.specs.BlockEntry.{new_entry}
use Rattle.thy_table.specs.PageEntry.{no_page, is_framed}
use Rattle.thy_table.specs.Counts.{Tally, AreTallied, uncounted}
use Rattle.thy_table.specs.declared.cell.Cell.{Cell}
use Rattle.thy_table.specs.Cells.{penult, last, work}
use Rattle.thy_table.specs.Sound.{IsSoundCell}
use Rattle.thy_control.specs.Find.{entry_for, index_for}
use Rattle.thy_control.specs.Keys.{block_key, page_key}

pub record State : Type 0 where
  pub p : Parameters
  pub btt : Listing BttEntry
  pub ptt : Listing PttEntry
  -- the stores of each page, in this epoch and in the one before
  pub counts : Tally
  -- a checkpoint is under way
  pub under_way : Bool
  pub dram : Contents

-- the state that has these parts
abbrev pub state_in : Parameters → Listing BttEntry → Listing PttEntry → Tally → Bool → Contents → State
state_in p btt ptt counts under_way dram = record { p = p; btt = btt; ptt = ptt; counts = counts; under_way = under_way; dram = dram }

-- a block as both tables have it
abbrev pub cell_of : State → ℕ → Cell
cell_of s b = record {
  i = index_for block_key new_entry b s.btt;
  entry = entry_for block_key new_entry b s.btt;
  j = index_for page_key no_page (page_of b) s.ptt;
  page = entry_for page_key no_page (page_of b) s.ptt;
}

-- what a read of a place gives, with this NVM below the controller
abbrev pub reads : State → Device → Place → Block
reads s n place = read_at s.p (devices_of n s.dram) place

-- the three versions of a block
abbrev pub penult_of : State → Device → ℕ → Block
penult_of s n b = reads s n (penult (cell_of s b))

abbrev pub last_of : State → Device → ℕ → Block
last_of s n b = reads s n (last (cell_of s b))

abbrev pub work_of : State → Device → ℕ → Block
work_of s n b = reads s n (work (cell_of s b))

-- an entry whose place neither checkpoint has, has work; and the same holds of every live one
abbrev pub IsUsed : BttEntry → Type 0
IsUsed e = e.v0 ≡ Out → e.v1 ≡ Out → e.work ≢ NoWork

abbrev pub AreUsed : Listing BttEntry → Type 0
AreUsed t = (i : ℕ) (e : BttEntry) → entry_at t i ≡ Some e → IsUsed e

-- each page of memory is counted, none too far, and the thresholds are the geometry's
pub record AreCountsOf (p : Parameters) (c : Tally) : Type 0 where
  pub size : length c.counts ≡ p.pages
  pub tallied : AreTallied c.counts c.lasts
  pub high : c.high ≡ p.high
  pub low : c.low ≡ p.low

-- the tables list blocks and pages of memory, none twice; every block is sound under them; and the sizes fit
pub record AreSoundTables (s : State) : Type 0 where
  pub range : IsInRange s.p
  pub btt_size : length s.btt.entries ≡ s.p.btt
  pub btt_numbers : s.btt.numbers ≡ memory_blocks s.p
  pub btt_once : IsListing block_key s.btt
  -- an entry is live only while a checkpoint has the block in its place, or it has work
  pub live_blocks : AreUsed s.btt
  pub ptt_size : length s.ptt.entries ≡ s.p.ptt
  pub ptt_numbers : s.ptt.numbers ≡ s.p.pages
  pub ptt_once : IsListing page_key s.ptt
  -- a page that has an entry, and not yet all of its frame, is being promoted
  pub live_pages : (j : ℕ) (e : PttEntry) → entry_at s.ptt j ≡ Some e → is_framed e ≡ false → e.fresh ≡ true
  pub counts : AreCountsOf s.p s.counts
  pub dram_size : length s.dram.blocks ≡ dram_blocks s.p
  pub cells : (b : ℕ) → b < memory_blocks s.p → IsSoundCell s.under_way (cell_of s b)

-- the NVM has the blocks that the places ask for
pub record IsSized (s : State) (n : Device) : Type 0 where
  pub nvm : length n.image ≡ image_blocks s.p

-- the controller of a machine whose power came on
abbrev pub new_state : Parameters → Contents → State
new_state p dram = record {
  p = p;
  btt = empty_table p.btt (memory_blocks p);
  ptt = empty_table p.ptt p.pages;
  counts = uncounted p.pages p.high p.low;
  under_way = false;
  dram = dram;
}
