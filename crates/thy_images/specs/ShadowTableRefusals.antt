-- What a refusal of a map says: which entries are at fault, and that these are the first.
use Rattle.std.specs.Prelude.{◌≡◌, ℕ, ◌*◌, ◌<◌, ◌≤◌, List, length, Option, Some, None}
use Rattle.thy_block.specs.declared.parameters.Parameters.{Parameters}
use Rattle.thy_layout.specs.declared.bad_image.BadImage.{BadImage}
use Rattle.thy_layout.specs.Entries.{entry_at, Lists}
use Rattle.thy_layout.specs.TableRefusals.{Says}
use Rattle.thy_images.specs.ShadowPlaces.{map_blocks, pool_pages}
use Rattle.thy_images.specs.ShadowSlots.{table_fault}

-- entry x has no right page: it lists none, and x is a page of memory; it lists one that the pool has not; or it lists
-- one, and memory has no page x
pub data IsStray (p : Parameters) (table : List (Option ℕ)) (x : ℕ) : Type 0 where
  Unmapped : x < p.pages → entry_at table x ≡ None → IsStray p table x
  PastPool : (q : ℕ) → Lists table x q → pool_pages p ≤ q → IsStray p table x
  PastMemory : (q : ℕ) → Lists table x q → p.pages ≤ x → IsStray p table x

-- the refusal that is found names the first entry of that kind or, if there is none, the first that lists what an earlier
-- one does, and that one
abbrev pub FoundIsSo : Type 0
FoundIsSo =
    (p : Parameters) (table : List (Option ℕ)) (bad : BadImage)
    → length table ≡ 8 * map_blocks p → table_fault p table ≡ Some bad → Says (IsStray p table) table bad

-- a refusal that holds of the map is found
abbrev pub SoIsFound : Type 0
SoIsFound =
    (p : Parameters) (table : List (Option ℕ)) (bad : BadImage)
    → length table ≡ 8 * map_blocks p → Says (IsStray p table) table bad → table_fault p table ≡ Some bad
