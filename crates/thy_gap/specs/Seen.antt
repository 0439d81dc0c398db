-- Part of the claim.
-- What is seen of an inner device through registers.
use Rattle.std.specs.Prelude.{ℕ, ◌==◌, if◌then◌else◌, Bool, true, false, List, [], ◌∷◌, ◌++◌, map, Option, Some, None}
use Rattle.std.specs.List.{range_with_len}
use Rattle.thy_block.specs.declared.block.Block.{Block}
use Rattle.thy_block.specs.declared.nvm.Write.{Write}
use Rattle.thy_block.specs.Device.{Device, block_at, write_of}
use Rattle.thy_gap.specs.declared.registers.Registers.{Registers}
use Rattle.thy_gap.specs.Lines.{place, line_at, registers_in}

-- the blocks at the places of the lines
abbrev pub unmap : Registers → List Block → List Block
unmap r image = map (λ x. block_at image (place r x)) (range_with_len 0 r.lines)

-- the image of the lines that an inner image means by its registers
abbrev pub unmapped : List Block → List Block
unmapped g = unmap (registers_in g) g

-- what an image is to a run over its device: itself, or the lines that it holds
abbrev pub seen_as : Bool → List Block → List Block
seen_as false g = g
seen_as true g = unmapped g

-- a write of a line, if there is one
abbrev pub write_to : Option ℕ → Block → List Write
write_to None block = []
write_to (Some x) block = write_of x block ∷ []

-- the writes of lines, without those to the gap and of the registers
abbrev pub unmap_queue : Registers → List Write → List Write
unmap_queue r [] = []
unmap_queue r (w ∷ ws) = write_to (line_at r w.at) w.block ++ unmap_queue r ws

-- the device of lines that an inner device means, with its counts; before a fit it is empty
abbrev pub seen : Registers → Device → Device
seen r n = record n {
  image = unmap r n.image;
  queue = unmap_queue r n.queue;
  left = if r.lines == 0 then [] else map unmapped n.left;
  picks = if r.lines == 0 then [] else n.picks;
  left_room = if r.lines == 0 then 0 else n.left_room;
}
