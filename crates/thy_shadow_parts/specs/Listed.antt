-- What the boot lists in a pool: the map of a slot.
use Rattle.std.specs.Prelude.{◌≡◌, ℕ, ◌<◌, List, length, Option, Some}
use Rattle.thy_layout.specs.Entries.{Lists}
use Rattle.thy_table.specs.Listing.{Listing, entry_at}
use Rattle.thy_shadow_parts.specs.declared.entry.Held.{Held}
use Rattle.thy_shadow_parts.specs.Keys.{held}

-- a pool has the same number of entries as before; they list the pages of memory below k as a map does, and nothing
-- else
pub record HoldsMap (k : ℕ) (table : List (Option ℕ)) (old new : Listing Held) : Type 0 where
  pub size : length new.entries ≡ length old.entries
  pub numbers : new.numbers ≡ old.numbers
  pub there : (x q : ℕ) → x < k → Lists table x q → entry_at new q ≡ Some (held x)
  pub only : (x q : ℕ) → entry_at new q ≡ Some (held x) → (x < k) × Lists table x q
