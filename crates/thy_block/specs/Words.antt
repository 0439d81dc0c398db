-- Part of the claim.
-- Blocks as eight numbers of 64 bits, the lowest byte of each first.
use Rattle.std.specs.Prelude.{ℕ, ◌*◌, List}
use Rattle.std.specs.List.{flat_map}
use Rattle.thy_block.specs.declared.block.Block.{Block}
use Rattle.thy_block.specs.LittleEndian.{number_at, number_bytes}

-- word i of a block
unfoldable pub word_of : Block → ℕ → ℕ
word_of b i = number_at 8 b.0 (8 * i)

-- the block of eight words
unfoldable pub block_of : List ℕ → Block
block_of words = record { 0 = flat_map (number_bytes 8) words }
