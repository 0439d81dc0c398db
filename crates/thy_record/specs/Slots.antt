-- Part of the claim.
-- A slot: the processor's record, after it the two tables, and in version 2 the counts of pages.
use Rattle.std.specs.Prelude.{◌≡◌, ℕ, ◌+◌, ◌-◌, ◌*◌, ◌/◌, ◌%◌, ◌<◌, ◌≤◌, ◌==◌, nat_lt, nat_le, Bool, ◌&&◌, ◌||◌, not, if◌then◌else◌, List, map, replicate, slice_index_or, Option, None}
use Rattle.std.specs.List.{range_with_len, position}
use Rattle.std.specs.Option.{option_or, option_map}
use Rattle.thy_block.specs.declared.block.Block.{Block}
use Rattle.thy_block.specs.declared.parameters.Parameters.{Parameters}
use Rattle.thy_layout.specs.declared.layout_version.LayoutVersion.{LayoutVersion}
use Rattle.thy_layout.specs.declared.layout_version.LayoutVersion.TheVariants.{VersionOne, VersionTwo}
use Rattle.thy_block.specs.Device.{block_at}
use Rattle.thy_block.specs.Places.{record_blocks}
use Rattle.thy_table.specs.Places.{table_blocks, count_blocks, slot_blocks}
use Rattle.thy_isa.specs.declared.state.CpuState.{CpuState}
use Rattle.thy_layout.specs.declared.bad_image.BadImage.{BadImage}
use Rattle.thy_layout.specs.declared.bad_image.BadImage.TheVariants.{Count}
use Rattle.thy_layout.specs.Cpu.{cpu_block_of}
use Rattle.thy_record.specs.Tables.{Tables}
use Rattle.thy_record.specs.TableBlocks.{table_block_of}
use Rattle.thy_record.specs.TableFaults.{tables_fault}
use Rattle.thy_layout.specs.Slots.{entries_in, epoch_fault, status_fault, second_fault}

-- block k of the slot of a checkpoint of version 2, with these blocks of counts
abbrev pub slot_block_of : Parameters → CpuState → Tables → (ℕ → Block) → ℕ → ℕ → Block
slot_block_of p cpu t counts epoch k =
    if nat_lt k (record_blocks p) then cpu_block_of cpu epoch k
    else if nat_lt k (record_blocks p + table_blocks p) then table_block_of t (k - record_blocks p)
    else counts (k - (record_blocks p + table_blocks p))

-- these blocks are the slot of a checkpoint
pub record IsSlotOf (p : Parameters) (cpu : CpuState) (t : Tables) (counts : ℕ → Block) (epoch : ℕ) (slot : List Block) : Type 0 where
  pub each : (k : ℕ) → k < slot_blocks p → block_at slot k ≡ slot_block_of p cpu t counts epoch k

-- these blocks have the tables' blocks after the record
pub record HasTableBlocks (p : Parameters) (t : Tables) (slot : List Block) : Type 0 where
  pub each : (k : ℕ) → k < table_blocks p → block_at slot (record_blocks p + k) ≡ table_block_of t k

-- byte i of blocks
abbrev pub byte_in : (ℕ → Block) → ℕ → ℕ
byte_in blocks i = slice_index_or (blocks (i / 64)).0 (i % 64) 0

-- these blocks are counts: none past 63, and zeros past the last page
pub record AreCounts (p : Parameters) (counts : ℕ → Block) : Type 0 where
  pub within : (i : ℕ) → i < p.pages → byte_in counts i ≤ 63
  pub rest : (i : ℕ) → p.pages ≤ i → i < 64 * count_blocks p → byte_in counts i ≡ 0

-- the tables of a slot, eight words a block: the block table after the record, the page table after that
abbrev pub tables_in : Parameters → List Block → Tables
tables_in p slot = record {
  btt = entries_in slot (8 * record_blocks p) p.btt;
  ptt = entries_in slot (8 * record_blocks p + p.btt) p.ptt;
}

-- byte i of the counts of a slot of version 2, and the counts of the pages
abbrev pub count_byte : Parameters → List Block → ℕ → ℕ
count_byte p slot i = byte_in (λ k. block_at slot (record_blocks p + table_blocks p + k)) i

abbrev pub counts_in : LayoutVersion → Parameters → List Block → List ℕ
counts_in VersionOne p slot = replicate p.pages 0
counts_in VersionTwo p slot = map (count_byte p slot) (range_with_len 0 p.pages)

-- a byte is past 63, or one past the last page is not 0
abbrev pub is_bad_count : Parameters → List Block → ℕ → Bool
is_bad_count p slot i = nat_lt 63 (count_byte p slot i) || (nat_le p.pages i && not (count_byte p slot i == 0))

-- the first byte that is no count; a slot of version 1 has none
abbrev pub count_fault : LayoutVersion → Parameters → List Block → Option BadImage
count_fault VersionOne p slot = None
count_fault VersionTwo p slot = option_map Count (position (is_bad_count p slot) (range_with_len 0 (64 * count_blocks p)))

-- what is wrong with record and tables, which both versions begin with, apart from the other hart's words
abbrev pub head_fault : Parameters → ℕ → ℕ → List Block → Option BadImage
head_fault p ceiling epoch slot =
    option_or (epoch_fault epoch slot) (option_or (tables_fault p (tables_in p slot)) (status_fault p ceiling slot))

-- the first fault of the counts, or else of the other hart's words
abbrev pub rest_fault : LayoutVersion → Parameters → List Block → Option BadImage
rest_fault version p slot = option_or (count_fault version p slot) (second_fault p slot)

-- the first fault of a slot under a commit block of this epoch
unfoldable pub slot_fault : LayoutVersion → Parameters → ℕ → ℕ → List Block → Option BadImage
slot_fault version p ceiling epoch slot =
    option_or (epoch_fault epoch slot)
    (option_or (tables_fault p (tables_in p slot)) (option_or (status_fault p ceiling slot) (rest_fault version p slot)))
