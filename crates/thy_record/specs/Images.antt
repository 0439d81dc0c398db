-- Part of the claim.
-- The slot of an image, and where tables have memory.
use Rattle.std.specs.Prelude.{ℕ, List, map}
use Rattle.std.specs.List.{range_with_len}
use Rattle.thy_block.specs.declared.block.Block.{Block}
use Rattle.thy_block.specs.declared.parameters.Parameters.{Parameters}
use Rattle.thy_block.specs.Geometry.{memory_blocks}
use Rattle.thy_table.specs.Places.{number_of}
use Rattle.thy_layout.specs.Layout.{slot_in as slot_by}
use Rattle.thy_record.specs.ThynvmLayouts.{thynvm_layouts}
use Rattle.thy_record.specs.Tables.{Tables, place_of}

-- the slot of an image's checkpoint
abbrev pub slot_in : Parameters → List Block → List Block
slot_in p image = slot_by (thynvm_layouts p) image

-- the numbers of the blocks in which tables have memory's blocks, in the order of these
abbrev pub memory_numbers : Parameters → Tables → List ℕ
memory_numbers p t = map (λ b. number_of p (place_of t b)) (range_with_len 0 (memory_blocks p))
