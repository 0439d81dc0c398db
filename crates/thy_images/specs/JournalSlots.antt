-- Part of the claim.
-- A slot of the journal: the processor's record, and after it the table, whose entry i lists the block of memory that
-- block i of the slot's journal holds.
use Rattle.std.specs.Prelude.{◌≡◌, ℕ, ◌<◌, List, length, Option}
use Rattle.std.specs.Option.{option_or}
use Rattle.thy_block.specs.declared.block.Block.{Block}
use Rattle.thy_block.specs.declared.parameters.Parameters.{Parameters}
use Rattle.thy_block.specs.Geometry.{memory_blocks}
use Rattle.thy_layout.specs.declared.bad_image.BadImage.{BadImage}
use Rattle.thy_layout.specs.Entries.{Lists}
use Rattle.thy_layout.specs.EntryFaults.{first_clash, index_rule, twice_fault}
use Rattle.thy_layout.specs.TableSlots.{table_of, slot_fault_by}

-- a table that a checkpoint may have: it lists blocks of memory, none twice
pub record IsTable (p : Parameters) (table : List (Option ℕ)) : Type 0 where
  pub long : length table ≡ p.btt
  pub blocks : (i b : ℕ) → Lists table i b → b < memory_blocks p
  pub once : (i k b : ℕ) → Lists table i b → Lists table k b → i ≡ k

-- the table of a slot
abbrev pub table_in : Parameters → List Block → List (Option ℕ)
table_in p slot = table_of p p.btt slot

-- an entry lists what memory has not
abbrev pub index_fault : Parameters → List (Option ℕ) → Option BadImage
index_fault p table = first_clash (index_rule 0 (memory_blocks p)) 0 table

-- the first fault of a table
unfoldable pub table_fault : Parameters → List (Option ℕ) → Option BadImage
table_fault p table = option_or (index_fault p table) (twice_fault table)

-- the first fault of a slot under a commit block of this epoch
unfoldable pub slot_fault : Parameters → ℕ → ℕ → List Block → Option BadImage
slot_fault p ceiling epoch slot = slot_fault_by (table_fault p (table_in p slot)) p ceiling epoch slot
