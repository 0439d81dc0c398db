-- A store of blocks that makes some copies before it stores, a page open meanwhile, and has little room.
use Rattle.std.specs.Prelude.{ℕ, true, List, Option}
use Rattle.thy_block.specs.declared.block.Block.{Block}
use Rattle.thy_block.specs.Store.{Holding}

-- a store that holds these blocks, has room for this many stores, owes this many copies, and copies this page, if any
abbrev pub scarce : List Block → ℕ → ℕ → Option ℕ → Holding
scarce blocks free copies page = record { blocks = blocks; faults = 0; free = free; ready = true; open_page = page; owed = copies }
