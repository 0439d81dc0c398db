-- Part of the claim.
-- The places of both devices, and the numbers of the blocks that they have. The NVM has the header (block 0), the
-- commit block (block 1), two slots of version 1, the places of memory's blocks, and after them two slots of version 2.
use Rattle.std.specs.Prelude.{◌≡◌, ◌⊎◌, ℕ, ◌+◌, ◌*◌, ◌/◌, ◌<◌, ◌≤◌, Bool, true, false}
use Rattle.thy_block.specs.declared.parameters.Parameters.{Parameters}
use Rattle.thy_block.specs.Geometry.{memory_blocks}
use Rattle.thy_block.specs.Places.{hart_blocks, record_blocks, dram_blocks, buffer_place, frame_place}
use Rattle.thy_table.specs.declared.place.Place.{Place}
use Rattle.thy_table.specs.declared.place.Place.TheVariants.{Home, AlternateBlock, AlternatePage, Buffer, Frame}

-- how many blocks the block table and the page table have, eight entries a block
abbrev pub table_blocks : Parameters → ℕ
table_blocks p = p.btt / 8 + p.ptt / 8

-- how many blocks the counts of the epoch before have, 64 pages a block
abbrev pub count_blocks : Parameters → ℕ
count_blocks p = (p.pages + 63) / 64

-- how many blocks a slot of version 1 has: the record of one hart, whatever the harts, and the tables
abbrev pub slot_blocks_one : Parameters → ℕ
slot_blocks_one p = hart_blocks + table_blocks p

-- how many blocks a slot of version 2 has, as a run's own checkpoints are: the processor's record, the tables, and the
-- counts
abbrev pub slot_blocks : Parameters → ℕ
slot_blocks p = record_blocks p + table_blocks p + count_blocks p

-- the first block of slot s of version 1
abbrev pub slot_place_one : Parameters → ℕ → ℕ
slot_place_one p s = 2 + s * slot_blocks_one p

-- the first of the homes of memory's blocks; after them come the alternate blocks, and then the alternate pages
abbrev pub first_home : Parameters → ℕ
first_home p = 2 + 2 * slot_blocks_one p

abbrev pub first_alternate_block : Parameters → ℕ
first_alternate_block p = first_home p + memory_blocks p

abbrev pub first_alternate_page : Parameters → ℕ
first_alternate_page p = first_alternate_block p + p.btt

-- how many blocks an image of version 1 has
abbrev pub blocks_one : Parameters → ℕ
blocks_one p = first_alternate_page p + 64 * p.ptt

-- the first block of slot s of version 2
abbrev pub slot_place : Parameters → ℕ → ℕ
slot_place p s = blocks_one p + s * slot_blocks p

-- how many blocks an image of the NVM has
abbrev pub image_blocks : Parameters → ℕ
image_blocks p = blocks_one p + 2 * slot_blocks p

-- no block of memory has its place there: header, commit block, and the slots of either version
abbrev pub IsApart : Parameters → ℕ → Type 0
IsApart p x = (x < first_home p) ⊎ (blocks_one p ≤ x)

-- the place is one of the DRAM, not of the NVM
abbrev pub in_dram : Place → Bool
in_dram (Home block) = false
in_dram (AlternateBlock entry) = false
in_dram (AlternatePage entry block) = false
in_dram (Buffer entry) = true
in_dram (Frame entry block) = true

-- the number of a place's block in its device
abbrev pub number_of : Parameters → Place → ℕ
number_of p (Home block) = first_home p + block
number_of p (AlternateBlock entry) = first_alternate_block p + entry
number_of p (AlternatePage entry block) = first_alternate_page p + (64 * entry + block)
number_of p (Buffer entry) = buffer_place p entry
number_of p (Frame entry block) = frame_place p entry block

-- the place is there: memory has the block, the table the entry, a page the block
abbrev pub IsPlace : Parameters → Place → Type 0
IsPlace p (Home block) = block < memory_blocks p
IsPlace p (AlternateBlock entry) = entry < p.btt
IsPlace p (AlternatePage entry block) = (entry < p.ptt) × (block < 64)
IsPlace p (Buffer entry) = entry < p.btt
IsPlace p (Frame entry block) = (entry < p.ptt) × (block < 64)

-- places of one device that have the same number are the same place
abbrev pub NumbersNamePlaces : Type 0
NumbersNamePlaces =
    (p : Parameters) (x y : Place) → IsPlace p x → IsPlace p y
    → in_dram x ≡ in_dram y → number_of p x ≡ number_of p y → x ≡ y

-- a place of the NVM lies after header, commit block and the slots of version 1, and before the slots of version 2
abbrev pub PlacesAreBetweenSlots : Type 0
PlacesAreBetweenSlots =
    (p : Parameters) (x : Place) → IsPlace p x → in_dram x ≡ false
    → (first_home p ≤ number_of p x) × (number_of p x < blocks_one p)

-- a place of the DRAM lies within it
abbrev pub PlacesAreInDram : Type 0
PlacesAreInDram = (p : Parameters) (x : Place) → IsPlace p x → in_dram x ≡ true → number_of p x < dram_blocks p

-- In version 1, slot 0 lies after the commit block, slot 1 after slot 0, and the homes after slot 1. In version 2, slot
-- 0 lies after all that version 1 has, slot 1 after slot 0, and nothing after slot 1.
pub record SlotsFollow (p : Parameters) : Type 0 where
  pub old_first : slot_place_one p 0 ≡ 2
  pub old_second : slot_place_one p 1 ≡ slot_place_one p 0 + slot_blocks_one p
  pub homes : first_home p ≡ slot_place_one p 1 + slot_blocks_one p
  pub first : slot_place p 0 ≡ blocks_one p
  pub second : slot_place p 1 ≡ slot_place p 0 + slot_blocks p
  pub ends : image_blocks p ≡ slot_place p 1 + slot_blocks p

abbrev pub SlotsAreApart : Type 0
SlotsAreApart = (p : Parameters) → SlotsFollow p
