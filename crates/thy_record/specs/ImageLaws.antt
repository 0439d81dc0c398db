-- What is written reads back, said of whole images.
use Rattle.std.specs.Prelude.{◌≡◌, ℕ, ◌+◌, ◌*◌, ◌^◌, ◌<◌, ◌≤◌, true, false, List, ◌++◌, length, map, take, drop, Option, None}
use Rattle.std.specs.List.{range_with_len}
use Rattle.thy_block.specs.declared.block.Block.{Block}
use Rattle.thy_block.specs.declared.parameters.Parameters.{Parameters}
use Rattle.thy_layout.specs.declared.layout_version.LayoutVersion.TheVariants.{VersionTwo}
use Rattle.thy_block.specs.Device.{block_at}
use Rattle.thy_block.specs.Geometry.{IsInRange, memory_blocks}
use Rattle.thy_block.specs.Places.{commit_place, header_place}
use Rattle.thy_table.specs.Places.{in_dram, IsPlace, slot_blocks, slot_place, image_blocks}
use Rattle.thy_isa.specs.declared.state.CpuState.{CpuState}
use Rattle.thy_isa.specs.Step.{State}
use Rattle.thy_layout.specs.Commit.{commit_of, slot_of_epoch}
use Rattle.thy_layout.specs.Cpu.{cpu_of_record, IsRecordable}
use Rattle.thy_layout.specs.Decoded.{At}
use Rattle.thy_isa.specs.OnBlocks.{state_from}
use Rattle.thy_record.specs.Number.{scheme_number}
use Rattle.thy_layout.specs.Header.{header_fault}
use Rattle.thy_layout.specs.Layout.{blocks_at}
use Rattle.thy_record.specs.ThynvmLayouts.{decode_image}
use Rattle.thy_record.specs.Images.{slot_in, memory_numbers}
use Rattle.thy_record.specs.Slots.{slot_block_of, byte_in, AreCounts, IsSlotOf, tables_in, counts_in, slot_fault}
use Rattle.thy_layout.specs.Entries.{entry_word}
use Rattle.thy_record.specs.TableBlocks.{table_block_of}
use Rattle.thy_record.specs.Tables.{Tables, place_of, IsTables}
use Rattle.thy_block.specs.Words.{block_of}
use Rattle.thy_record.specs.TableFaults.{tables_fault}

-- tables are those that a checkpoint may have exactly if no fault is found in them
pub record IsFaultless (p : Parameters) (t : Tables) : Type 0 where
  pub btt_length : length t.btt ≡ p.btt
  pub ptt_length : length t.ptt ≡ p.ptt
  pub none : tables_fault p t ≡ None

pub record FaultlessAgrees (p : Parameters) (t : Tables) : Type 0 where
  pub found : IsFaultless p t → IsTables p t
  pub stands : IsTables p t → IsFaultless p t

abbrev pub FaultlessTables : Type 0
FaultlessTables = (p : Parameters) (t : Tables) → FaultlessAgrees p t

-- each block of memory has a place in the NVM
pub record HasPlace (p : Parameters) (t : Tables) (b : ℕ) : Type 0 where
  pub there : IsPlace p (place_of t b)
  pub in_nvm : in_dram (place_of t b) ≡ false

abbrev pub BlocksHavePlaces : Type 0
BlocksHavePlaces = (p : Parameters) (t : Tables) (b : ℕ) → IsTables p t → b < memory_blocks p → HasPlace p t b

-- no two blocks of memory have the same place in the NVM
abbrev pub PlacesAreOwn : Type 0
PlacesAreOwn = (t : Tables) (b c : ℕ) → place_of t b ≡ place_of t c → b ≡ c

-- eight entries of the tables make one block of the tables
abbrev pub EntriesAreBlock : Type 0
EntriesAreBlock =
    (t : Tables) (k : ℕ) (entries : List (Option ℕ))
    → entries ≡ take 8 (drop (8 * k) (t.btt ++ t.ptt)) → block_of (map entry_word entries) ≡ table_block_of t k

-- processor, tables and counts read back from a slot as they were written, and it has no fault
pub record ReadsBack (p : Parameters) (ceiling : ℕ) (cpu : CpuState) (t : Tables) (counts : ℕ → Block) (epoch : ℕ)
    (slot : List Block) : Type 0 where
  pub cpu_back : cpu_of_record p slot ≡ cpu
  pub tables_back : tables_in p slot ≡ t
  pub counts_back : counts_in VersionTwo p slot ≡ map (byte_in counts) (range_with_len 0 p.pages)
  pub faultless : slot_fault VersionTwo p ceiling epoch slot ≡ None

abbrev pub SlotReadsBack : Type 0
SlotReadsBack =
    (p : Parameters) (ceiling : ℕ) (cpu : CpuState) (t : Tables) (counts : ℕ → Block) (epoch : ℕ) (slot : List Block)
    → IsInRange p → IsRecordable p ceiling cpu → IsTables p t → AreCounts p counts → ceiling ≤ 2 ^ 64 → epoch < 2 ^ 64
    → IsSlotOf p cpu t counts epoch slot → ReadsBack p ceiling cpu t counts epoch slot

-- an image has a checkpoint's commit block and slot, and a header without a fault
pub record HasCheckpoint (p : Parameters) (image : List Block) (cpu : CpuState) (t : Tables) (counts : ℕ → Block) (epoch : ℕ) : Type 0 where
  pub long : length image ≡ image_blocks p
  pub header_fits : header_fault scheme_number (block_at image header_place) p true ≡ None
  pub commit : block_at image commit_place ≡ commit_of epoch
  pub slot : (k : ℕ) → k < slot_blocks p
      → block_at image (slot_place p (slot_of_epoch epoch) + k) ≡ slot_block_of p cpu t counts epoch k

-- an image with a checkpoint's commit block and slot decodes to that epoch, that processor and the blocks at the places
-- of those tables
abbrev pub WrittenDecodes : Type 0
WrittenDecodes =
    (p : Parameters) (ceiling : ℕ) (cpu : CpuState) (t : Tables) (counts : ℕ → Block) (epoch : ℕ) (image : List Block)
    → IsInRange p → IsRecordable p ceiling cpu → IsTables p t → AreCounts p counts → ceiling ≤ 2 ^ 64 → epoch < ceiling
    → HasCheckpoint p image cpu t counts epoch
    → decode_image p ceiling image ≡ At epoch (state_from p cpu (blocks_at image (memory_numbers p t)))

-- an image that decodes to a checkpoint has tables that a checkpoint may have
abbrev pub DecodedHasTables : Type 0
DecodedHasTables =
    (p : Parameters) (ceiling : ℕ) (image : List Block) (epoch : ℕ) (state : State)
    → decode_image p ceiling image ≡ At epoch state → IsTables p (tables_in p (slot_in p image))
