-- Part of the claim.
-- The counts of the epoch before as blocks: a byte a page, 64 pages a block.
use Rattle.std.specs.Prelude.{ℕ, ◌*◌, List, take, drop}
use Rattle.thy_block.specs.declared.block.Block.{Block}
use Rattle.thy_block.specs.Blocks.{overwritten}
use Rattle.thy_block.specs.Device.{zero_block}

-- block k of the counts; there are zeros past the last page
unfoldable pub last_block_of : List ℕ → ℕ → Block
last_block_of lasts k = overwritten 0 (take 64 (drop (64 * k) lasts)) zero_block
