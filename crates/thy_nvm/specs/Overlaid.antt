-- A device over the image of another one: what it holds, and how it lies in memory.
use Rattle.std.specs.Prelude.{◌≡◌, ℕ, false, Bool, List, [], length, slice_set}
use Rattle.thy_block.specs.declared.block.Block.{Block}
use Rattle.thy_block.specs.Counts.{next}
use Rattle.thy_block.specs.Device.{Device, written_to}
use Rattle.thy_dram.specs.Held.{Held}
use Rattle.thy_dram.specs.Merged.{merged, AreMarked}
use Rattle.thy_nvm.specs.DeviceInMemory.{InMemory, device_in, failed}
use Rattle.thy_nvm.specs.Kept.{no_cuts}
use Rattle.thy_nvm.specs.Pick.{picked}

pub record Overlaid : Type 0 where
  pub device : Device

abbrev pub overlaid : Device → Overlaid
overlaid device = record { device = device }

-- a ring whose blocks count where they are marked; elsewhere those below do
abbrev pub over_below : Held → List Bool → List Block → Held
over_below held marks below = record held { image = merged marks held.image below }

-- what a cut with this pick leaves of a device in memory, on a device that has kept no image yet, and can keep this number
abbrev pub left_of : ℕ → InMemory → ℕ → Overlaid
left_of pick m cuts =
    overlaid (device_in (record { image = picked m.device.whole pick m.device.image m.device.queue; queue = []; room = m.device.queue_room })
    (no_cuts (length m.device.image) cuts) false 0 0 m.device.whole 0)

-- an overlay after a call
abbrev pub on_overlay : (Device → Device) → Overlaid → Overlaid
on_overlay call o = record o { device = call o.device }

-- an overlay after a write
abbrev pub written_over : ℕ → Block → Overlaid → Overlaid
written_over at block = on_overlay (λ n. written_to n at block)

-- after a block was put at a place, whatever is queued
abbrev pub put_in : ℕ → Block → Device → Device
put_in at block n = record n { image = slice_set n.image at block }

-- a device after a fit that failed, and is counted
abbrev pub fit_failed : Device → Device
fit_failed n = failed (record n { fits = next n.fits })

-- what holds of the parts
pub record IsSoundOverlay (held : Held) (marks : List Bool) (below : List Block) (size : ℕ) : Type 0 where
  -- the ring, the marks, the blocks below and what is kept of cuts have one size
  pub blocks : length held.image ≡ length marks
  pub as_many : length below ≡ length marks
  pub kept : size ≡ length marks
  -- each queued write is for a marked place
  pub marked : AreMarked marks held.queue

-- what holds of the parts of the room for such a device
pub record IsSoundSpare (held : Held) (marks : List Bool) (size : ℕ) : Type 0 where
  pub blocks : length held.image ≡ length marks
  pub kept : size ≡ length marks
