-- What a power cut leaves at one place, and what a read gives there.
use Rattle.std.specs.Prelude.{◌≡◌, ◌⊎◌, ℕ, ◌+◌, ◌<◌, length}
use Rattle.thy_block.specs.declared.block.Block.{Block}
use Rattle.thy_block.specs.Device.{Device, CrashAt, newest}

-- the only block that a cut may leave at a place
pub record IsFixed (n : Device) (x : ℕ) (b : Block) : Type 0 where
  pub only : (c : Block) → CrashAt n x c → c ≡ b

-- a cut may leave one of two blocks at a place, and no other
pub record IsEither (n : Device) (x : ℕ) (a b : Block) : Type 0 where
  pub either : (c : Block) → CrashAt n x c → (c ≡ a) ⊎ (c ≡ b)

-- a read of a place gives this block
pub record Reads (n : Device) (x : ℕ) (b : Block) : Type 0 where
  pub inside : x < length n.image
  pub newest_is : newest n x ≡ b

-- reads of k places, from x on, give the first k of these blocks
pub record ReadsFirst (n : Device) (x : ℕ) (blocks : ℕ → Block) (k : ℕ) : Type 0 where
  pub each : (i : ℕ) → i < k → Reads n (x + i) (blocks i)
