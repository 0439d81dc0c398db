-- Part of the claim.
-- What a loss of power leaves in memory that forgets: bytes drawn from a seed.
use Rattle.std.specs.Prelude.{ℕ, ◌%◌, List, [], ◌∷◌, replicate}
use Rattle.thy_block.specs.declared.block.Block.{Block}
use Rattle.thy_block.specs.Lcg.{lcg_next, lcg_draw}

-- each byte is written over by the low 8 bits of one draw
unfoldable pub bytes_over : ℕ → List ℕ → List ℕ
bytes_over seed [] = []
bytes_over seed (b ∷ bs) = lcg_draw (lcg_next seed) % 256 ∷ bytes_over (lcg_next seed) bs

-- the state after one draw for each byte
unfoldable pub after_bytes : ℕ → List ℕ → ℕ
after_bytes seed [] = seed
after_bytes seed (b ∷ bs) = after_bytes (lcg_next seed) bs

-- a block of 64 drawn bytes
unfoldable pub drawn_block : ℕ → Block
drawn_block seed = record { 0 = bytes_over seed (replicate 64 0) }

-- the state after the draws of a block
unfoldable pub after_block : ℕ → ℕ
after_block seed = after_bytes seed (replicate 64 0)

-- each block, in order, is written over by drawn bytes
abbrev pub blocks_over : ℕ → List Block → List Block
blocks_over seed [] = []
blocks_over seed (b ∷ bs) = drawn_block seed ∷ blocks_over (after_block seed) bs
