-- Part of the claim.
-- The bytes of blocks, and bytes written into blocks.
use Rattle.std.specs.Prelude.{ℕ, List, ◌++◌, take, replicate, slice_set}
use Rattle.thy_block.specs.declared.block.Block.{Block}
use Rattle.thy_block.specs.Bytes.{written}
use Rattle.thy_block.specs.Device.{block_at}

-- the 64 bytes of a block: the blocks that code holds have 64; any other is filled up with zeros, or cut off
unfoldable pub block_bytes : Block → List ℕ
block_bytes block = take 64 (block.0 ++ replicate 64 0)

-- a block with a piece written over its bytes from byte j on
abbrev pub overwritten : ℕ → List ℕ → Block → Block
overwritten j piece block = record { 0 = written (block_bytes block) j piece }

-- the blocks with a piece written over the bytes of block k from byte j on
abbrev pub block_written : List Block → ℕ → ℕ → List ℕ → List Block
block_written blocks k j piece = slice_set blocks k (overwritten j piece (block_at blocks k))
