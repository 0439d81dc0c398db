-- The bytes of the blocks at some places of an image.
use Rattle.std.specs.Prelude.{ℕ, ◌<◌, List, length, map, take, drop, slice_index_or}
use Rattle.thy_block.specs.declared.block.Block.{Block}
use Rattle.thy_block.specs.Device.{block_at}
use Rattle.thy_block.specs.Flat.{flat}

-- these are numbers of an image's blocks
pub record AreInside (image : List Block) (places : List ℕ) : Type 0 where
  pub each : (k : ℕ) → k < length places → slice_index_or places k 0 < length image

-- the bytes of n blocks of an image, from the first of these places on
abbrev pub bytes_at : List Block → List ℕ → ℕ → ℕ → List ℕ
bytes_at image places first n = flat (take n (drop first (map (block_at image) places)))
