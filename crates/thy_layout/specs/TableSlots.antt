-- Part of the claim.
-- A slot with one table: the processor's record, and after it the table, eight entries a block.
use Rattle.std.specs.Prelude.{ℕ, ◌-◌, ◌*◌, nat_lt, if◌then◌else◌, List, map, take, drop, Option}
use Rattle.std.specs.Option.{option_or}
use Rattle.thy_block.specs.declared.block.Block.{Block}
use Rattle.thy_block.specs.declared.parameters.Parameters.{Parameters}
use Rattle.thy_block.specs.Places.{record_blocks}
use Rattle.thy_block.specs.Words.{block_of}
use Rattle.thy_isa.specs.declared.state.CpuState.{CpuState}
use Rattle.thy_layout.specs.declared.bad_image.BadImage.{BadImage}
use Rattle.thy_layout.specs.Cpu.{cpu_block_of}
use Rattle.thy_layout.specs.Entries.{entry_word}
use Rattle.thy_layout.specs.Slots.{entries_in, epoch_fault, cpu_fault}

-- block k of a table
unfoldable pub table_block_of : List (Option ℕ) → ℕ → Block
table_block_of table k = block_of (take 8 (drop (8 * k) (map entry_word table)))

-- block k of the slot of a checkpoint
abbrev pub slot_block_of : Parameters → CpuState → List (Option ℕ) → ℕ → ℕ → Block
slot_block_of p cpu table epoch k =
    if nat_lt k (record_blocks p) then cpu_block_of cpu epoch k else table_block_of table (k - record_blocks p)

-- the table of a slot, which has n entries
abbrev pub table_of : Parameters → ℕ → List Block → List (Option ℕ)
table_of p n slot = entries_in slot (8 * record_blocks p) n

-- the first fault of a slot under a commit block of this epoch: another epoch, the fault of the table, or the processor's
abbrev pub slot_fault_by : Option BadImage → Parameters → ℕ → ℕ → List Block → Option BadImage
slot_fault_by table p ceiling epoch slot = option_or (epoch_fault epoch slot) (option_or table (cpu_fault p ceiling slot))
