-- From an image of version 1 to its own checkpoint in version 2.
use Rattle.std.specs.Prelude.{◌≡◌, ℕ, ◌^◌, ◌<◌, ◌≤◌, true, List, length, replicate, None}
use Rattle.thy_block.specs.declared.block.Block.{Block}
use Rattle.thy_block.specs.declared.parameters.Parameters.{Parameters}
use Rattle.thy_layout.specs.declared.layout_version.LayoutVersion.TheVariants.{VersionOne, VersionTwo}
use Rattle.thy_block.specs.Device.{Device, block_at, newest}
use Rattle.thy_block.specs.Places.{header_place}
use Rattle.thy_record.specs.VersionSlots.{blocks_of_slot}
use Rattle.thy_table.specs.Places.{slot_blocks, slot_place, image_blocks}
use Rattle.thy_isa.specs.OnBlocks.{state_from}
use Rattle.thy_layout.specs.Commit.{commit_of, slot_of_epoch}
use Rattle.thy_layout.specs.Cpu.{cpu_of_record}
use Rattle.thy_layout.specs.Decoded.{At}
use Rattle.thy_layout.specs.Header.{header_fault}
use Rattle.thy_record.specs.Number.{scheme_number}
use Rattle.thy_record.specs.Images.{slot_in, memory_numbers}
use Rattle.thy_record.specs.Issuing.{HoldsCheckpoint}
use Rattle.thy_record.specs.Slots.{tables_in, counts_in, slot_fault}
use Rattle.thy_layout.specs.Saved.{IsIssued, next_image}
use Rattle.thy_computer.specs.Issuing.{CheckpointParts, AreIssued}
use Rattle.thy_layout.specs.Layout.{decode_by, looked_by}
use Rattle.thy_record.specs.ThynvmLayouts.{thynvm_layouts}

-- where the parts of a migrated checkpoint go: the slot of its epoch in version 2 gets the blocks of this slot of
-- version 1, and then zeros; memory's blocks stay where they are
abbrev pub migrated_parts : Parameters → List Block → ℕ → CheckpointParts
migrated_parts p slot epoch = record {
  slot_place = slot_place p (slot_of_epoch epoch);
  slot_blocks = slot_blocks p;
  slot = block_at slot;
  memory = memory_numbers p (tables_in p slot);
}

-- with the commit block of that epoch in version 2 the next image is the same checkpoint, has the same tables and
-- counts of 0, and lacks no other write
pub record IsMigrated (p : Parameters) (ceiling : ℕ) (n : Device) (slot : List Block) (epoch : ℕ) (memory : List Block) : Type 0 where
  pub meant : HoldsCheckpoint p (next_image n (commit_of epoch)) VersionTwo epoch (tables_in p slot)
  pub counted : counts_in VersionTwo p (slot_in p (next_image n (commit_of epoch))) ≡ replicate p.pages 0
  pub decodes : decode_by (thynvm_layouts p) ceiling (next_image n (commit_of epoch)) ≡ At epoch (state_from p (cpu_of_record p slot) memory)
  pub issued : IsIssued (looked_by (thynvm_layouts p)) n (next_image n (commit_of epoch))

-- a migration decodes once its whole slot was issued, after a header that has no fault, from a slot that has none
abbrev pub MigrationDecodes : Type 0
MigrationDecodes =
    (p : Parameters) (ceiling : ℕ) (n : Device) (slot : List Block) (epoch : ℕ) (memory : List Block)
    → ceiling ≤ 2 ^ 64 → epoch < ceiling → length slot ≡ blocks_of_slot VersionOne p → slot_fault VersionOne p ceiling epoch slot ≡ None
    → header_fault scheme_number (newest n header_place) p true ≡ None
    → AreIssued (image_blocks p) (migrated_parts p slot epoch) n memory (slot_blocks p)
    → IsMigrated p ceiling n slot epoch memory
