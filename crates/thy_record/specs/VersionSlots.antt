-- Part of the claim.
-- The slots of both versions: how many blocks they have, and where they begin.
use Rattle.std.specs.Prelude.{ℕ}
use Rattle.thy_block.specs.declared.parameters.Parameters.{Parameters}
use Rattle.thy_layout.specs.declared.layout_version.LayoutVersion.{LayoutVersion}
use Rattle.thy_layout.specs.declared.layout_version.LayoutVersion.TheVariants.{VersionOne, VersionTwo}
use Rattle.thy_table.specs.Places.{slot_blocks_one, slot_blocks, slot_place_one, slot_place}

-- how many blocks a slot of a version has
abbrev pub blocks_of_slot : LayoutVersion → Parameters → ℕ
blocks_of_slot VersionOne p = slot_blocks_one p
blocks_of_slot VersionTwo p = slot_blocks p

-- the first block of its slot s
abbrev pub place_of_slot : LayoutVersion → Parameters → ℕ → ℕ
place_of_slot VersionOne p s = slot_place_one p s
place_of_slot VersionTwo p s = slot_place p s
