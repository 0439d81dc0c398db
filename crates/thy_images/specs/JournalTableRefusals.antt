-- What a refusal of a table says: which entries are at fault, and that these are the first.
use Rattle.std.specs.Prelude.{◌≡◌, ℕ, ◌≤◌, List, Option, Some}
use Rattle.thy_block.specs.declared.parameters.Parameters.{Parameters}
use Rattle.thy_block.specs.Geometry.{memory_blocks}
use Rattle.thy_layout.specs.declared.bad_image.BadImage.{BadImage}
use Rattle.thy_layout.specs.Entries.{Lists}
use Rattle.thy_layout.specs.TableRefusals.{Says}
use Rattle.thy_images.specs.JournalSlots.{table_fault}

-- an entry lists a block that memory has not
pub record ListsBeyond (p : Parameters) (table : List (Option ℕ)) (i : ℕ) : Type 0 where
  pub block : ℕ
  pub lists : Lists table i block
  pub over : memory_blocks p ≤ block

-- the refusal that is found names the first entry that lists what memory has not or, if there is none, the first that
-- lists what an earlier one does, and that one
abbrev pub FoundIsSo : Type 0
FoundIsSo =
    (p : Parameters) (table : List (Option ℕ)) (bad : BadImage)
    → table_fault p table ≡ Some bad → Says (ListsBeyond p table) table bad

-- a refusal that holds of the table is found
abbrev pub SoIsFound : Type 0
SoIsFound =
    (p : Parameters) (table : List (Option ℕ)) (bad : BadImage)
    → Says (ListsBeyond p table) table bad → table_fault p table ≡ Some bad
