-- Part of the claim.
-- The two tables of a checkpoint, and the place at which it has each block of memory.
use Rattle.std.specs.Prelude.{◌≡◌, ℕ, ◌%◌, ◌<◌, List, length, Option, Some, None}
use Rattle.thy_block.specs.declared.parameters.Parameters.{Parameters}
use Rattle.thy_table.specs.declared.place.Place.{Place}
use Rattle.thy_table.specs.declared.place.Place.TheVariants.{Home, AlternateBlock, AlternatePage}
use Rattle.thy_block.specs.Geometry.{memory_blocks}
use Rattle.thy_block.specs.Store.{page_of}
use Rattle.thy_layout.specs.Entries.{Lists, entry_of}

-- an entry of a table lists a number or is empty
pub record Tables : Type 0 where
  -- the block table: the block of memory that each alternate block holds
  pub btt : List (Option ℕ)
  -- the page table: the page of memory that each alternate page holds
  pub ptt : List (Option ℕ)

-- the place of a block, by the entry of the page table that lists its page
abbrev pub place_in_page : Option ℕ → ℕ → Place
place_in_page None b = Home b
place_in_page (Some j) b = AlternatePage j (b % 64)

-- the place of a block, by the entry of the block table that lists it, and by the entry of the page table that lists
-- its page
abbrev pub place_by_entries : Option ℕ → Option ℕ → ℕ → Place
place_by_entries None page b = place_in_page page b
place_by_entries (Some i) page b = AlternateBlock i

-- the place of block b of memory
abbrev pub place_of : Tables → ℕ → Place
place_of t b = place_by_entries (entry_of t.btt b) (entry_of t.ptt (page_of b)) b

-- tables that a checkpoint may have: they list blocks and pages of memory, none twice, and no block of a listed page
pub record IsTables (p : Parameters) (t : Tables) : Type 0 where
  pub btt_length : length t.btt ≡ p.btt
  pub ptt_length : length t.ptt ≡ p.ptt
  pub blocks : (i b : ℕ) → Lists t.btt i b → b < memory_blocks p
  pub pages : (j page : ℕ) → Lists t.ptt j page → page < p.pages
  pub blocks_once : (i k b : ℕ) → Lists t.btt i b → Lists t.btt k b → i ≡ k
  pub pages_once : (j k page : ℕ) → Lists t.ptt j page → Lists t.ptt k page → j ≡ k
  pub apart : (i j b : ℕ) → Lists t.btt i b → Lists t.ptt j (page_of b) → ⊥
