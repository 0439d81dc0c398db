-- What a refusal of tables says: which entries are at fault, and that these are the first.
use Rattle.std.specs.Prelude.{◌≡◌, ℕ, ◌+◌, ◌<◌, ◌≤◌, length, Some}
use Rattle.thy_block.specs.declared.parameters.Parameters.{Parameters}
use Rattle.thy_block.specs.Geometry.{memory_blocks}
use Rattle.thy_block.specs.Store.{page_of}
use Rattle.thy_layout.specs.declared.bad_image.BadImage.{BadImage}
use Rattle.thy_layout.specs.declared.bad_image.BadImage.TheVariants.{TableIndex, TableTwice, BlockUnderPage}
use Rattle.thy_layout.specs.Entries.{Lists}
use Rattle.thy_record.specs.Tables.{Tables}
use Rattle.thy_record.specs.TableFaults.{tables_fault}

-- an entry lists a block or a page that memory has not; the page table's entries are counted after the block table's
pub data ListsBeyond (p : Parameters) (t : Tables) : ℕ → Type 0 where
  BlockBeyond : (i block : ℕ) → Lists t.btt i block → memory_blocks p ≤ block → ListsBeyond p t i
  PageBeyond : (j page : ℕ) → Lists t.ptt j page → p.pages ≤ page → ListsBeyond p t (p.btt + j)

-- two entries of one table, in order, list the same; they are counted in this way too
pub data ListTwice (p : Parameters) (t : Tables) : ℕ → ℕ → Type 0 where
  BlockTwice : (i k block : ℕ) → i < k → Lists t.btt i block → Lists t.btt k block → ListTwice p t i k
  PageTwice : (j k page : ℕ) → j < k → Lists t.ptt j page → Lists t.ptt k page → ListTwice p t (p.btt + j) (p.btt + k)

-- entry i of the block table lists a block of the page that entry j of the page table lists
pub record ListsUnder (t : Tables) (i j : ℕ) : Type 0 where
  pub block : ℕ
  pub lists : Lists t.btt i block
  pub page : Lists t.ptt j (page_of block)

-- the first entry that lists what memory has not
pub record IsFirstBeyond (p : Parameters) (t : Tables) (i : ℕ) : Type 0 where
  pub here : ListsBeyond p t i
  pub least : (k : ℕ) → k < i → ¬ ListsBeyond p t k

-- the first that lists what an earlier one does, and each lists what memory has
pub record IsFirstTwice (p : Parameters) (t : Tables) (i k : ℕ) : Type 0 where
  pub here : ListTwice p t i k
  pub least : (j m : ℕ) → m < k → ¬ ListTwice p t j m
  pub none_beyond : (m : ℕ) → ¬ ListsBeyond p t m

-- the first that lists a block of a listed page, and no two list the same
pub record IsFirstUnder (p : Parameters) (t : Tables) (i j : ℕ) : Type 0 where
  pub here : ListsUnder t i j
  pub least : (k m : ℕ) → k < i → ¬ ListsUnder t k m
  pub none_twice : (k m : ℕ) → ¬ ListTwice p t k m
  pub none_beyond : (m : ℕ) → ¬ ListsBeyond p t m

-- what a refusal says; tables have none but these
abbrev pub Says : Parameters → Tables → BadImage → Type 0
Says p t (TableIndex i) = IsFirstBeyond p t i
Says p t (TableTwice i k) = IsFirstTwice p t i k
Says p t (BlockUnderPage i j) = IsFirstUnder p t i j
Says p t _ = ⊥

-- what the refusal that is found says holds of the tables
abbrev pub FoundIsSo : Type 0
FoundIsSo =
    (p : Parameters) (t : Tables) (bad : BadImage)
    → length t.btt ≡ p.btt → tables_fault p t ≡ Some bad → Says p t bad

-- a refusal that holds of the tables is the one that is found
abbrev pub SoIsFound : Type 0
SoIsFound =
    (p : Parameters) (t : Tables) (bad : BadImage)
    → length t.btt ≡ p.btt → Says p t bad → tables_fault p t ≡ Some bad
