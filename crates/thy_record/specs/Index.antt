-- Where an image has each block of memory, as one list of numbers: so far as both tables were gone through.
use Rattle.std.specs.Prelude.{◌≡◌, ◌≢◌, ℕ, ◌+◌, ◌*◌, ◌<◌, List, slice_set, slice_index_or, Option, Some, None}
use Rattle.thy_block.specs.declared.parameters.Parameters.{Parameters}
use Rattle.thy_table.specs.declared.place.Place.TheVariants.{AlternateBlock, AlternatePage}
use Rattle.thy_table.specs.Places.{number_of}
use Rattle.thy_block.specs.Store.{page_of}
use Rattle.thy_record.specs.Images.{memory_numbers}
use Rattle.thy_layout.specs.Entries.{Lists}

-- the number of each block's place, by these entries of the block table and of the page table
abbrev pub index_by : Parameters → List (Option ℕ) → List (Option ℕ) → List ℕ
index_by p btt ptt = memory_numbers p (record { btt = btt; ptt = ptt })

-- a table lists numbers below a limit, none twice
pub record ListsOnce (limit : ℕ) (table : List (Option ℕ)) : Type 0 where
  pub inside : (i n : ℕ) → Lists table i n → n < limit
  pub once : (i k n : ℕ) → Lists table i n → Lists table k n → i ≡ k

-- the block that entry i of the block table lists stands in its alternate block
abbrev pub with_block : Parameters → ℕ → Option ℕ → List ℕ → List ℕ
with_block p i None index = index
with_block p i (Some b) index = slice_set index b (number_of p (AlternateBlock i))

-- the blocks of a page stand in the alternate page of entry j of the page table, and all others where they stood
pub record HasPage (p : Parameters) (j page : ℕ) (old new : List ℕ) : Type 0 where
  pub here : (k : ℕ) → k < 64 → slice_index_or new (64 * page + k) 0 ≡ number_of p (AlternatePage j k)
  pub others : (b : ℕ) → page_of b ≢ page → slice_index_or new b 0 ≡ slice_index_or old b 0

-- the blocks of the page that an entry lists, if it lists one, stand in its alternate page, and all others where they
-- stood
abbrev pub HasPageOf : Parameters → ℕ → Option ℕ → List ℕ → List ℕ → Type 0
HasPageOf p j None old new = new ≡ old
HasPageOf p j (Some page) old new = HasPage p j page old new
