-- What one load or one store does: one action at both devices at most, and none of the engine's work.
use Rattle.std.specs.Prelude.{◌≡◌, ◌⊎◌, ℕ, ◌+◌, ◌<◌, ◌≤◌, false, length}
use Rattle.thy_block.specs.declared.block.Block.{Block}
use Rattle.thy_table.specs.declared.place.Place.{Place}
use Rattle.thy_block.specs.Device.{Device, HasFailed, HasFailedToWrite, IsFramed, written_to}
use Rattle.thy_block.specs.Geometry.{memory_blocks}
use Rattle.thy_table.specs.Places.{IsPlace, in_dram, number_of, image_blocks}
use Rattle.thy_table.specs.Devices.{Devices, devices_of, written_at}
use Rattle.thy_table.specs.declared.block_entry.Pending.TheVariants.{Settled, FromBuffer}
use Rattle.thy_table.specs.declared.cell.Cell.{Cell}
use Rattle.thy_control.specs.Guarded.{IsFree}
use Rattle.thy_control.specs.State.{State, cell_of}
use Rattle.thy_control.specs.Stays.{Stays}

-- one block was written at one place of one device; a place of the NVM is none that a checkpoint has
pub record Writes (s : State) (old new : Devices) : Type 0 where
  pub place : Place
  pub block : Block
  pub there : IsPlace s.p place
  pub free : in_dram place ≡ false → IsFree s (number_of s.p place)
  pub written : new ≡ written_at s.p place block old

-- a read of the NVM failed
pub record FailsRead (old new : Devices) : Type 0 where
  pub dram : new.dram ≡ old.dram
  pub failed : HasFailed old.nvm new.nvm

-- a write of one block at such a place of the NVM failed: that place may hold it or not, and no other has changed
pub record FailsWrite (s : State) (old new : Devices) : Type 0 where
  pub place : Place
  pub block : Block
  pub there : IsPlace s.p place
  pub in_nvm : in_dram place ≡ false
  pub free : IsFree s (number_of s.p place)
  pub dram : new.dram ≡ old.dram
  pub failed : HasFailedToWrite (number_of s.p place) block old.nvm new.nvm

-- both devices are as before, or one of these happened
abbrev pub IsOneAction : State → Devices → Devices → Type 0
IsOneAction s old new = (new ≡ old) ⊎ (Writes s old new ⊎ (FailsRead old new ⊎ FailsWrite s old new))

-- of one block, what the checkpoint under way has still to do is left: nothing of it is written, and nothing copied
-- but a buffer that a store has to go into
pub record KeepsCheckpointWork (c d : Cell) : Type 0 where
  pub busy_same : d.page.busy ≡ c.page.busy
  pub issued_same : d.page.issued ≡ c.page.issued
  pub pending : (d.entry.pend ≡ c.entry.pend) ⊎ ((c.entry.pend ≡ FromBuffer) × (d.entry.pend ≡ Settled))

-- one call of the controller
pub record Once (s : State) (m : Device) (t : State) (n : Device) : Type 0 where
  pub action : IsOneAction s (devices_of m s.dram) (devices_of n t.dram)
  pub frame : IsFramed m n
  pub stays : Stays s m t n
  pub work : (b : ℕ) → b < memory_blocks s.p → KeepsCheckpointWork (cell_of s b) (cell_of t b)

-- a place of memory in the NVM that no checkpoint has, and a block
pub record Spot (s : State) : Type 0 where
  pub at : ℕ
  pub block : Block
  pub inside : at < image_blocks s.p
  pub free : IsFree s at

-- the NVM alone is as before, or was written once at such a place
abbrev pub AccessesNvm : State → Device → Device → Type 0
AccessesNvm s old new = (new ≡ old) ⊎ ((x : Spot s) × (new ≡ written_to old x.at x.block))

-- a call failed at a read of the NVM or at such a write
abbrev pub FailsOnNvm : State → Device → Device → Type 0
FailsOnNvm s old new = HasFailed old new ⊎ ((x : Spot s) × HasFailedToWrite x.at x.block old new)

-- how many writes are queued in both devices together
abbrev pub queued : Devices → ℕ
queued d = length d.nvm.queue + d.dram.queued

-- one action of both devices is at most one of the NVM; if the NVM is up afterwards it did not fail, and at most one
-- more write is queued
pub record IsOneOfNvm (s : State) (old new : Devices) : Type 0 where
  pub nvm : AccessesNvm s old.nvm new.nvm ⊎ FailsOnNvm s old.nvm new.nvm
  pub up : new.nvm.down ≡ false → AccessesNvm s old.nvm new.nvm
  pub queue : new.nvm.down ≡ false → queued new ≤ queued old + 1

abbrev pub OneActionIsOneOfNvm : Type 0
OneActionIsOneOfNvm = (s : State) (old new : Devices) → IsOneAction s old new → IsOneOfNvm s old new
