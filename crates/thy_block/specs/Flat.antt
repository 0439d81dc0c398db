-- Part of the claim.
-- A list of blocks as a list of bytes.
use Rattle.std.specs.Prelude.{◌≡◌, ℕ, ◌<◌, List, take, drop, length}
use Rattle.std.specs.List.{flat_map}
use Rattle.thy_block.specs.declared.block.Block.{Block}
use Rattle.thy_block.specs.declared.parameters.Parameters.{Parameters}
use Rattle.thy_block.specs.Blocks.{block_bytes}
use Rattle.thy_block.specs.Device.{block_at}
use Rattle.thy_block.specs.Geometry.{program_size}

-- the bytes of a list of blocks, 64 of each
unfoldable pub flat : List Block → List ℕ
flat blocks = flat_map block_bytes blocks

-- every block has 64 bytes of its own
pub record AllLong (blocks : List Block) : Type 0 where
  pub each : (k : ℕ) → k < length blocks → length (block_at blocks k).0 ≡ 64

-- program memory
abbrev pub memory_bytes : Parameters → List Block → List ℕ
memory_bytes p blocks = take (program_size p) (flat blocks)

-- the first n bytes of the console's pages, which follow program memory
abbrev pub console_bytes : Parameters → List Block → ℕ → List ℕ
console_bytes p blocks n = take n (drop (program_size p) (flat blocks))
