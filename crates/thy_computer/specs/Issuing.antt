-- Part of the claim.
-- How a checkpoint is written in any layout while another one is kept: what of it was issued so far.
use Rattle.std.specs.Prelude.{◌≡◌, ◌≢◌, ℕ, ◌+◌, ◌<◌, ◌≤◌, true, false, List, length, map, Contains, None}
use Rattle.std.specs.List.{range_with_len}
use Rattle.thy_block.specs.declared.block.Block.{Block}
use Rattle.thy_block.specs.Device.{Device, newest, drained, written_to}
use Rattle.thy_block.specs.Places.{header_place}
use Rattle.thy_layout.specs.Fixed.{ReadsFirst}
use Rattle.thy_layout.specs.Saved.{IsIssued, next_image}
use Rattle.thy_layout.specs.Commit.{is_zero, epoch_of}
use Rattle.thy_layout.specs.Decoded.{At}
use Rattle.thy_layout.specs.Layout.{Layout, state_by, slot_in, memory_in, memory_places, fault_of, decode_by, looked_by}

-- the places that the parts of a checkpoint are written to: the blocks of its slot, one after the other, and memory's
-- blocks
pub record CheckpointParts : Type 0 where
  pub slot_place : ℕ
  pub slot_blocks : ℕ
  pub slot : ℕ → Block
  pub memory : List ℕ

-- the slot as a list
abbrev pub slot_of : CheckpointParts → List Block
slot_of parts = map parts.slot (range_with_len 0 parts.slot_blocks)

-- the places of a checkpoint's parts are after the commit block, within an image of this many blocks, and no block of
-- memory is in the slot
pub record ArePlaced (image_blocks : ℕ) (parts : CheckpointParts) : Type 0 where
  pub slot_behind : 2 ≤ parts.slot_place
  pub slot_inside : parts.slot_place + parts.slot_blocks ≤ image_blocks
  pub memory_behind : (x : ℕ) → Contains parts.memory x → 2 ≤ x
  pub memory_inside : (x : ℕ) → Contains parts.memory x → x < image_blocks
  pub apart : (k : ℕ) → k < parts.slot_blocks → ¬ Contains parts.memory (parts.slot_place + k)

-- the first k blocks of the slot were issued: reads give them; and reads give these blocks of memory
pub record AreIssued (image_blocks : ℕ) (parts : CheckpointParts) (n : Device) (memory : List Block) (k : ℕ) : Type 0 where
  pub sized : length n.image ≡ image_blocks
  pub memory_is : map (newest n) parts.memory ≡ memory
  pub slot : ReadsFirst n parts.slot_place parts.slot k

-- a device whose reads give memory begins with no block of the slot issued
abbrev pub IssuingBegins : Type 0
IssuingBegins =
    (image_blocks : ℕ) (parts : CheckpointParts) (n : Device)
    → length n.image ≡ image_blocks → AreIssued image_blocks parts n (map (newest n) parts.memory) 0

-- after the write of the next block of the slot, one block more is issued
abbrev pub SlotGoesOn : Type 0
SlotGoesOn =
    (image_blocks : ℕ) (parts : CheckpointParts) (old new : Device) (memory : List Block) (k : ℕ)
    → ArePlaced image_blocks parts → AreIssued image_blocks parts old memory k → k < parts.slot_blocks
    → new ≡ written_to old (parts.slot_place + k) (parts.slot k) → AreIssued image_blocks parts new memory (k + 1)

-- a place to which neither a block of the slot nor one of memory is written
pub record IsElsewhere (parts : CheckpointParts) (x : ℕ) : Type 0 where
  pub no_slot : (k : ℕ) → k < parts.slot_blocks → parts.slot_place + k ≢ x
  pub no_memory : ¬ Contains parts.memory x

-- a write elsewhere leaves the blocks of a checkpoint issued
abbrev pub ElsewhereKeepsIssued : Type 0
ElsewhereKeepsIssued =
    (image_blocks : ℕ) (parts : CheckpointParts) (old new : Device) (memory : List Block) (k x : ℕ) (block : Block)
    → ArePlaced image_blocks parts → AreIssued image_blocks parts old memory k → k ≤ parts.slot_blocks
    → IsElsewhere parts x → new ≡ written_to old x block → AreIssued image_blocks parts new memory k

-- a drain changes nothing of the blocks that were issued
abbrev pub DrainKeepsIssued : Type 0
DrainKeepsIssued =
    (image_blocks : ℕ) (parts : CheckpointParts) (old new : Device) (memory : List Block) (k : ℕ)
    → ArePlaced image_blocks parts → AreIssued image_blocks parts old memory k
    → new ≡ drained old → AreIssued image_blocks parts new memory k

-- ---- the whole checkpoint

-- the parts are at the places that a layout gives them with this commit block
pub record ArePartsOf (l : Layout) (commit : Block) (parts : CheckpointParts) : Type 0 where
  pub placed : ArePlaced l.image_blocks parts
  pub slot_place : l.slot_place commit ≡ parts.slot_place
  pub slot_blocks : l.slot_blocks commit ≡ parts.slot_blocks
  pub memory : memory_places l commit (slot_of parts) ≡ parts.memory

-- with the commit block the next image is the checkpoint, with epochs and counts below a ceiling, and it lacks no other write
pub record IsCheckpoint (l : Layout) (ceiling : ℕ) (n : Device) (commit : Block) (parts : CheckpointParts) (memory : List Block) : Type 0 where
  pub slot : slot_in l (next_image n commit) ≡ slot_of parts
  pub memory_is : memory_in l (next_image n commit) ≡ memory
  pub decodes : decode_by l ceiling (next_image n commit) ≡ At (epoch_of commit) (state_by l (slot_of parts) memory)
  pub issued : IsIssued (looked_by l) n (next_image n commit)

-- the next image is a checkpoint, with the whole slot issued, and no fault in header, commit block and slot
abbrev pub IssuedIsCheckpoint : Type 0
IssuedIsCheckpoint =
    (l : Layout) (ceiling : ℕ) (n : Device) (commit : Block) (parts : CheckpointParts) (memory : List Block)
    → ArePartsOf l commit parts → AreIssued l.image_blocks parts n memory parts.slot_blocks
    → is_zero commit ≡ false → fault_of l ceiling true (newest n header_place) commit (slot_of parts) ≡ None
    → IsCheckpoint l ceiling n commit parts memory
