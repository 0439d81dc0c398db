-- What is kept of the device after the first cycle of a row, and whether the device is still as it was.
use Rattle.std.specs.Prelude.{◌≡◌, false}
use Rattle.thy_block.specs.Device.{Device}
use Rattle.thy_sweep.specs.Repeats.{IsSeen, StaysSince}
use Rattle.sweep.specs.declared.account.Kept.{Kept}

-- unless it has changed, a device shows what is kept
abbrev pub IsKept : Kept → Device → Type 0
IsKept k n = k.changed ≡ false → IsSeen k.queue.items k.first n

-- A device was looked at after a cycle. What is kept stays, and whether the device has changed is known: once it has, it has.
pub record IsLooked (old new : Kept) (n : Device) : Type 0 where
  pub queue : new.queue.items ≡ old.queue.items
  pub first : new.first ≡ old.first
  pub before : new.changed ≡ false → old.changed ≡ false
  pub stays : new.changed ≡ false → StaysSince new.queue.items new.first n
