-- Part of the claim.
-- The slot of a start: epoch 0, with empty tables and counts of 0.
use Rattle.std.specs.Prelude.{ℕ, replicate, None}
use Rattle.thy_block.specs.declared.block.Block.{Block}
use Rattle.thy_block.specs.declared.parameters.Parameters.{Parameters}
use Rattle.thy_block.specs.Device.{zero_block}
use Rattle.thy_isa.specs.Step.{State, cpu_of}
use Rattle.thy_record.specs.Slots.{slot_block_of}
use Rattle.thy_record.specs.Tables.{Tables}

-- tables that list nothing
abbrev pub no_tables : Parameters → Tables
no_tables p = record { btt = replicate p.btt None; ptt = replicate p.ptt None }

-- counts of 0
abbrev pub no_counts : ℕ → Block
no_counts k = zero_block

-- block k of the slot
abbrev pub start_slot : Parameters → State → ℕ → Block
start_slot p s k = slot_block_of p (cpu_of s) (no_tables p) no_counts 0 k
