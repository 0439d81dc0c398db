-- A store of blocks that makes some copies before it stores, or fails.
use Rattle.std.specs.Prelude.{ℕ, ◌-◌, ◌^◌, true, List, None}
use Rattle.thy_block.specs.declared.block.Block.{Block}
use Rattle.thy_block.specs.Store.{Holding}

-- a store that holds these blocks, owes this many copies, and has failed this many times
abbrev pub copying : List Block → ℕ → ℕ → Holding
copying blocks copies faults = record { blocks = blocks; faults = faults; free = 2 ^ 64 - 1; ready = true; open_page = None; owed = copies }
