-- How long epochs and boots can be.
use Rattle.std.specs.Prelude.{ℕ, ◌+◌, ◌*◌, ◌<◌, ◌≤◌}
use Rattle.thy_block.specs.declared.parameters.Parameters.{Parameters}
use Rattle.thy_block.specs.Geometry.{IsInRange, memory_blocks}
use Rattle.thy_table.specs.Places.{slot_blocks}
use Rattle.thy_scheme.specs.Pace.{most_spent}
use Rattle.thy_thynvm_parts.specs.Scheme.{thynvm_scheme}

-- instructions, lines of the cache, entries of the block table, blocks of the page table's pages, and sixteen more
abbrev pub size_of : Parameters → ℕ
size_of p = p.epoch + p.sets * p.ways + p.btt + 64 * p.ptt + 16

-- an epoch spends less than 64 cycles for each of them, if each number is in its range
abbrev pub EpochsAreShort : Type 0
EpochsAreShort = (p : Parameters) → IsInRange p → most_spent thynvm_scheme p < 64 * size_of p

-- a boot takes an action for each of memory's blocks, two for each of the slot's, 64 for each entry of the page table,
-- and eight more, at the most
abbrev pub BootsAreShort : Type 0
BootsAreShort =
    (p : Parameters) → thynvm_scheme.most_booting p ≤ memory_blocks p + 2 * slot_blocks p + 64 * p.ptt + 8
