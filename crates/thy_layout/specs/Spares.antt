-- What calls that leave some places alone may do to a device.
use Rattle.std.specs.Prelude.{◌≡◌, ℕ, List, Contains, length}
use Rattle.thy_block.specs.declared.block.Block.{Block}
use Rattle.thy_block.specs.Device.{Device, CrashAt}

-- a device is as long as it was, and at these places a cut may leave nothing that it could not leave before
pub record Spares (places : List ℕ) (old new : Device) : Type 0 where
  pub as_long : length new.image ≡ length old.image
  pub no_more : (x : ℕ) → Contains places x → (b : Block) → CrashAt new x b → CrashAt old x b
