-- Part of the claim.
-- What a DRAM is to its callers: a list of blocks, and how many writes are queued.
use Rattle.std.specs.Prelude.{ℕ, ◌+◌, ◌-◌, min, List, replicate, slice_set}
use Rattle.thy_block.specs.declared.block.Block.{Block}
use Rattle.thy_block.specs.Device.{zero_block}
use Rattle.thy_dram.specs.Draws.{blocks_over}

pub record Contents : Type 0 where
  -- what a read of each place gives
  pub blocks : List Block
  -- how many writes are queued
  pub queued : ℕ
  -- how many the queue holds
  pub room : ℕ

-- a new DRAM holds zeros
abbrev pub fresh : ℕ → ℕ → Contents
fresh blocks room = record { blocks = replicate blocks zero_block; queued = 0; room = room }

-- a DRAM after a write: of a full queue the oldest write has landed
abbrev pub written : Contents → ℕ → Block → Contents
written d at block = record d { blocks = slice_set d.blocks at block; queued = min (d.queued + 1) d.room }

-- the DRAM after a drain
abbrev pub drained : Contents → Contents
drained d = record d { queued = d.queued - 1 }

-- the DRAM after a loss of power
abbrev pub lost : Contents → ℕ → Contents
lost d pick = record d { blocks = blocks_over pick d.blocks; queued = 0 }
