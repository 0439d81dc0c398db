-- Part of the claim.
-- The places of an image of the journal: header, commit block, two slots, the homes of memory's blocks, and after them a
-- journal for each slot. A journal has a block for each entry of the table.
use Rattle.std.specs.Prelude.{ℕ, ◌+◌, ◌*◌, ◌/◌, List, Option, Some, None}
use Rattle.thy_block.specs.declared.parameters.Parameters.{Parameters}
use Rattle.thy_block.specs.Geometry.{memory_blocks}
use Rattle.thy_block.specs.Places.{record_blocks}
use Rattle.thy_layout.specs.Entries.{entry_of}

-- the number of the scheme, as headers have it
abbrev pub scheme_number : ℕ
scheme_number = 1

-- how many blocks a slot has: the processor's record, and the table, eight entries a block
abbrev pub slot_blocks : Parameters → ℕ
slot_blocks p = record_blocks p + p.btt / 8

-- the first block of a slot
abbrev pub slot_place : Parameters → ℕ → ℕ
slot_place p s = 2 + s * slot_blocks p

-- the first of the homes; after them comes the journal of slot s
abbrev pub first_home : Parameters → ℕ
first_home p = 2 + 2 * slot_blocks p

abbrev pub first_journal : Parameters → ℕ → ℕ
first_journal p s = first_home p + memory_blocks p + s * p.btt

-- how many blocks an image has
abbrev pub image_blocks : Parameters → ℕ
image_blocks p = first_home p + memory_blocks p + 2 * p.btt

-- the home of block b of memory, and the block of entry i in the journal of slot s
abbrev pub home_place : Parameters → ℕ → ℕ
home_place p b = first_home p + b

abbrev pub journal_place : Parameters → ℕ → ℕ → ℕ
journal_place p s i = first_journal p s + i

-- the place of block b in the checkpoint of slot s, by the entry that lists it
abbrev pub place_by : Parameters → ℕ → ℕ → Option ℕ → ℕ
place_by p s b None = home_place p b
place_by p s b (Some i) = journal_place p s i

-- the place of block b in the checkpoint of slot s, by the checkpoint's table: in the journal of the slot if the table
-- lists it, else at home
abbrev pub place_of : Parameters → ℕ → List (Option ℕ) → ℕ → ℕ
place_of p s table b = place_by p s b (entry_of table b)
