-- Part of the claim.
-- How a checkpoint of shadow paging is written: where its parts go, and that it is one once they were issued.
use Rattle.std.specs.Prelude.{◌≡◌, ℕ, ◌^◌, ◌<◌, ◌≤◌, true, List, map, Option, None}
use Rattle.std.specs.List.{range_with_len}
use Rattle.thy_block.specs.declared.block.Block.{Block}
use Rattle.thy_block.specs.declared.parameters.Parameters.{Parameters}
use Rattle.thy_block.specs.Device.{Device, block_at, newest}
use Rattle.thy_block.specs.Geometry.{IsInRange, memory_blocks}
use Rattle.thy_block.specs.Places.{commit_place, header_place}
use Rattle.thy_layout.specs.Saved.{IsIssued, next_image}
use Rattle.thy_isa.specs.declared.state.CpuState.{CpuState}
use Rattle.thy_isa.specs.OnBlocks.{state_from}
use Rattle.thy_layout.specs.Commit.{commit_of, epoch_of, slot_of_epoch}
use Rattle.thy_layout.specs.Cpu.{IsRecordable, cpu_of_record}
use Rattle.thy_layout.specs.Decoded.{At}
use Rattle.thy_layout.specs.Header.{header_fault}
use Rattle.thy_computer.specs.Issuing.{CheckpointParts, AreIssued}
use Rattle.thy_layout.specs.Layout.{decode_by, looked_by, slot_in}
use Rattle.thy_layout.specs.TableSlots.{slot_block_of}
use Rattle.thy_images.specs.ShadowPlaces.{scheme_number, slot_blocks, slot_place, image_blocks, place_of}
use Rattle.thy_images.specs.ShadowSlots.{IsMap, table_in, slot_fault}
use Rattle.thy_images.specs.ShadowLayout.{shadow_layouts}

-- ---- a slot that is written reads back

-- the blocks of the slot of a checkpoint
abbrev pub slot_of_checkpoint : Parameters → CpuState → List (Option ℕ) → ℕ → List Block
slot_of_checkpoint p cpu table epoch = map (slot_block_of p cpu table epoch) (range_with_len 0 (slot_blocks p))

-- processor and map read back from them, and they have no fault
pub record ReadsBack (p : Parameters) (ceiling : ℕ) (cpu : CpuState) (table : List (Option ℕ)) (epoch : ℕ) (slot : List Block)
    : Type 0 where
  pub cpu_back : cpu_of_record p slot ≡ cpu
  pub table_back : table_in p slot ≡ table
  pub faultless : slot_fault p ceiling epoch slot ≡ None

abbrev pub SlotReadsBack : Type 0
SlotReadsBack =
    (p : Parameters) (ceiling : ℕ) (cpu : CpuState) (table : List (Option ℕ)) (epoch : ℕ)
    → IsInRange p → IsRecordable p ceiling cpu → IsMap p table → ceiling ≤ 2 ^ 64 → epoch < 2 ^ 64
    → ReadsBack p ceiling cpu table epoch (slot_of_checkpoint p cpu table epoch)

-- a slot without a fault has a map that a checkpoint may have
abbrev pub FaultlessIsMap : Type 0
FaultlessIsMap =
    (p : Parameters) (ceiling epoch : ℕ) (slot : List Block)
    → slot_fault p ceiling epoch slot ≡ None → IsMap p (table_in p slot)

-- ---- the checkpoint of an epoch

-- the places of memory's blocks in the checkpoint, in the order of the blocks
abbrev pub memory_places : Parameters → List (Option ℕ) → List ℕ
memory_places p table = map (place_of p table) (range_with_len 0 (memory_blocks p))

-- where the parts of a checkpoint go, with this map
abbrev pub parts_by : Parameters → CpuState → List (Option ℕ) → ℕ → CheckpointParts
parts_by p cpu table epoch = record {
  slot_place = slot_place p (slot_of_epoch epoch);
  slot_blocks = slot_blocks p;
  slot = slot_block_of p cpu table epoch;
  memory = memory_places p table;
}

-- the first k blocks of a slot were issued, and memory is to be these blocks; the map is one that a checkpoint may have
pub record IsIssuing (p : Parameters) (n : Device) (cpu : CpuState) (table : List (Option ℕ)) (epoch : ℕ)
    (memory : List Block) (k : ℕ) : Type 0 where
  pub whole : IsMap p table
  pub parts : AreIssued (image_blocks p) (parts_by p cpu table epoch) n memory k

-- an image has the checkpoint of this epoch, with this map
pub record HoldsCheckpoint (p : Parameters) (image : List Block) (epoch : ℕ) (table : List (Option ℕ)) : Type 0 where
  pub of_epoch : epoch_of (block_at image commit_place) ≡ epoch
  pub table_is : table_in p (slot_in (shadow_layouts p) image) ≡ table
  pub whole : IsMap p table

-- the next image, with the commit block of this epoch, is the checkpoint, has its map, and lacks no other write
pub record IsIssuedCheckpoint (p : Parameters) (ceiling : ℕ) (n : Device) (cpu : CpuState) (table : List (Option ℕ)) (epoch : ℕ)
    (memory : List Block) : Type 0 where
  pub meant : HoldsCheckpoint p (next_image n (commit_of epoch)) epoch table
  pub decodes : decode_by (shadow_layouts p) ceiling (next_image n (commit_of epoch)) ≡ At epoch (state_from p cpu memory)
  pub issued : IsIssued (looked_by (shadow_layouts p)) n (next_image n (commit_of epoch))

-- the next image decodes to the checkpoint, with the whole slot issued and under any header that has no fault
abbrev pub IssuedDecodes : Type 0
IssuedDecodes =
    (p : Parameters) (ceiling : ℕ) (n : Device) (cpu : CpuState) (table : List (Option ℕ)) (epoch : ℕ) (memory : List Block)
    → IsInRange p → IsRecordable p ceiling cpu → ceiling ≤ 2 ^ 64 → epoch < ceiling
    → IsIssuing p n cpu table epoch memory (slot_blocks p) → header_fault scheme_number (newest n header_place) p true ≡ None
    → IsIssuedCheckpoint p ceiling n cpu table epoch memory
