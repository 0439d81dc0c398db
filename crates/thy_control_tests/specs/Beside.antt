-- A store of blocks that a test makes random calls of.
use Rattle.std.specs.Prelude.{◌≡◌, ℕ, true, length}
use Rattle.thy_block.specs.Store.{Holding}

-- how many blocks the least memory has
abbrev pub all : ℕ
all = 512

-- the store holds all blocks of the least memory, and takes another store
pub record Takes (h : Holding) : Type 0 where
  pub long : length h.blocks ≡ all
  pub ready : h.ready ≡ true
