-- Part of the claim.
-- A slot of shadow paging: the processor's record, and after it the map, whose entry x lists the page of the pool
-- that has page x of memory. Entries past the last page are empty.
use Rattle.std.specs.Prelude.{◌≡◌, ℕ, ◌+◌, ◌*◌, ◌<◌, ◌&&◌, nat_lt, if◌then◌else◌, List, [], ◌∷◌, length, Option, Some, None}
use Rattle.std.specs.Option.{option_or}
use Rattle.thy_block.specs.declared.block.Block.{Block}
use Rattle.thy_block.specs.declared.parameters.Parameters.{Parameters}
use Rattle.thy_layout.specs.declared.bad_image.BadImage.{BadImage}
use Rattle.thy_layout.specs.declared.bad_image.BadImage.TheVariants.{TableIndex}
use Rattle.thy_layout.specs.Entries.{Lists}
use Rattle.thy_layout.specs.EntryFaults.{twice_fault}
use Rattle.thy_layout.specs.TableSlots.{table_of, slot_fault_by}
use Rattle.thy_images.specs.ShadowPlaces.{map_blocks, pool_pages}

-- a map that a checkpoint may have: it lists a page of the pool for each page of memory and for no other, none twice
pub record IsMap (p : Parameters) (table : List (Option ℕ)) : Type 0 where
  pub long : length table ≡ 8 * map_blocks p
  pub mapped : (x : ℕ) → x < p.pages → (q : ℕ) × Lists table x q
  pub of_page : (x q : ℕ) → Lists table x q → x < p.pages
  pub in_pool : (x q : ℕ) → Lists table x q → q < pool_pages p
  pub once : (x y q : ℕ) → Lists table x q → Lists table y q → x ≡ y

-- the map of a slot
abbrev pub table_in : Parameters → List Block → List (Option ℕ)
table_in p slot = table_of p (8 * map_blocks p) slot

-- the fault of entry x: a page of memory has none of the pool, or one that is not there; or there is no such page
abbrev pub stray : Parameters → ℕ → Option ℕ → Option BadImage
stray p x None = if nat_lt x p.pages then Some (TableIndex x) else None
stray p x (Some q) = if nat_lt x p.pages && nat_lt q (pool_pages p) then None else Some (TableIndex x)

-- the first fault of some entries, of which the first has number k
abbrev pub first_stray : Parameters → ℕ → List (Option ℕ) → Option BadImage
first_stray p k [] = None
first_stray p k (e ∷ es) = option_or (stray p k e) (first_stray p (k + 1) es)

abbrev pub index_fault : Parameters → List (Option ℕ) → Option BadImage
index_fault p table = first_stray p 0 table

-- the first fault of a map
unfoldable pub table_fault : Parameters → List (Option ℕ) → Option BadImage
table_fault p table = option_or (index_fault p table) (twice_fault table)

-- the first fault of a slot under a commit block of this epoch
unfoldable pub slot_fault : Parameters → ℕ → ℕ → List Block → Option BadImage
slot_fault p ceiling epoch slot = slot_fault_by (table_fault p (table_in p slot)) p ceiling epoch slot
