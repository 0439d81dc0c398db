-- A slot of version 1, written again in version 2: its blocks, and zeros after them.
use Rattle.std.specs.Prelude.{◌≡◌, ℕ, ◌<◌, List, length, replicate, None}
use Rattle.thy_block.specs.declared.block.Block.{Block}
use Rattle.thy_block.specs.declared.parameters.Parameters.{Parameters}
use Rattle.thy_layout.specs.declared.layout_version.LayoutVersion.TheVariants.{VersionOne, VersionTwo}
use Rattle.thy_block.specs.Device.{block_at}
use Rattle.thy_record.specs.VersionSlots.{blocks_of_slot}
use Rattle.thy_table.specs.Places.{slot_blocks}
use Rattle.thy_layout.specs.Cpu.{cpu_of_record}
use Rattle.thy_record.specs.Slots.{tables_in, counts_in, slot_fault}

-- each block of the new slot is the old slot's block; past the old slot's end it is a block of zeros
pub record IsWrittenAnew (p : Parameters) (old new : List Block) : Type 0 where
  pub short : length old ≡ blocks_of_slot VersionOne p
  pub long : length new ≡ slot_blocks p
  pub each : (k : ℕ) → k < slot_blocks p → block_at new k ≡ block_at old k

-- the new slot has the same processor and the same tables as the old one, counts of 0, and no fault either
pub record MeansTheSame (p : Parameters) (ceiling epoch : ℕ) (old new : List Block) : Type 0 where
  pub cpu_same : cpu_of_record p new ≡ cpu_of_record p old
  pub tables_same : tables_in p new ≡ tables_in p old
  pub no_counts : counts_in VersionTwo p new ≡ replicate p.pages 0
  pub faultless : slot_fault VersionTwo p ceiling epoch new ≡ None

abbrev pub AnewMeansTheSame : Type 0
AnewMeansTheSame =
    (p : Parameters) (ceiling epoch : ℕ) (old new : List Block)
    → IsWrittenAnew p old new → slot_fault VersionOne p ceiling epoch old ≡ None → MeansTheSame p ceiling epoch old new
