-- How a checkpoint is written, in version 2.
use Rattle.std.specs.Prelude.{◌≡◌, ℕ, ◌^◌, ◌<◌, ◌≤◌, true, List, map, None}
use Rattle.std.specs.List.{range_with_len}
use Rattle.thy_block.specs.declared.block.Block.{Block}
use Rattle.thy_block.specs.declared.parameters.Parameters.{Parameters}
use Rattle.thy_layout.specs.declared.layout_version.LayoutVersion.TheVariants.{VersionTwo}
use Rattle.thy_block.specs.Device.{Device, newest}
use Rattle.thy_block.specs.Geometry.{IsInRange}
use Rattle.thy_block.specs.Places.{header_place}
use Rattle.thy_table.specs.Places.{slot_blocks, slot_place, image_blocks}
use Rattle.thy_isa.specs.declared.state.CpuState.{CpuState}
use Rattle.thy_isa.specs.OnBlocks.{state_from}
use Rattle.thy_layout.specs.Commit.{commit_of, slot_of_epoch}
use Rattle.thy_layout.specs.Cpu.{IsRecordable}
use Rattle.thy_layout.specs.Decoded.{At}
use Rattle.thy_layout.specs.Header.{header_fault}
use Rattle.thy_record.specs.Number.{scheme_number}
use Rattle.thy_record.specs.Images.{slot_in, memory_numbers}
use Rattle.thy_record.specs.Slots.{slot_block_of, byte_in, AreCounts, counts_in}
use Rattle.thy_record.specs.Tables.{Tables, IsTables}
use Rattle.thy_record.specs.Issuing.{HoldsCheckpoint}
use Rattle.thy_layout.specs.Saved.{IsIssued, next_image}
use Rattle.thy_computer.specs.Issuing.{CheckpointParts, AreIssued}
use Rattle.thy_layout.specs.Layout.{decode_by, looked_by}
use Rattle.thy_record.specs.ThynvmLayouts.{thynvm_layouts}

-- where the parts of a checkpoint of an epoch go, with these tables and blocks of counts
abbrev pub parts_by : Parameters → CpuState → Tables → (ℕ → Block) → ℕ → CheckpointParts
parts_by p cpu t counts epoch = record {
  slot_place = slot_place p (slot_of_epoch epoch);
  slot_blocks = slot_blocks p;
  slot = slot_block_of p cpu t counts epoch;
  memory = memory_numbers p t;
}

-- the first k blocks of a slot were issued, and memory is to be these blocks; the slot has tables that a checkpoint may
-- have, and counts
pub record IsIssuing (p : Parameters) (n : Device) (cpu : CpuState) (t : Tables) (counts : ℕ → Block) (epoch : ℕ)
    (memory : List Block) (k : ℕ) : Type 0 where
  pub tables : IsTables p t
  pub counts_are : AreCounts p counts
  pub parts : AreIssued (image_blocks p) (parts_by p cpu t counts epoch) n memory k

-- the next image, with the commit block of this epoch, is the checkpoint, has its tables and counts, and lacks no other
-- write
pub record IsIssuedCheckpoint (p : Parameters) (ceiling : ℕ) (n : Device) (cpu : CpuState) (t : Tables) (counts : ℕ → Block)
    (epoch : ℕ) (memory : List Block) : Type 0 where
  pub meant : HoldsCheckpoint p (next_image n (commit_of epoch)) VersionTwo epoch t
  pub counted : counts_in VersionTwo p (slot_in p (next_image n (commit_of epoch))) ≡ map (byte_in counts) (range_with_len 0 p.pages)
  pub decodes : decode_by (thynvm_layouts p) ceiling (next_image n (commit_of epoch)) ≡ At epoch (state_from p cpu memory)
  pub issued : IsIssued (looked_by (thynvm_layouts p)) n (next_image n (commit_of epoch))

-- with the whole slot issued, and any header there that has no fault
abbrev pub IssuedDecodes : Type 0
IssuedDecodes =
    (p : Parameters) (ceiling : ℕ) (n : Device) (cpu : CpuState) (t : Tables) (counts : ℕ → Block) (epoch : ℕ) (memory : List Block)
    → IsInRange p → IsRecordable p ceiling cpu → ceiling ≤ 2 ^ 64 → epoch < ceiling
    → IsIssuing p n cpu t counts epoch memory (slot_blocks p) → header_fault scheme_number (newest n header_place) p true ≡ None
    → IsIssuedCheckpoint p ceiling n cpu t counts epoch memory
