-- Part of the claim.
-- A block moves from one place to another: a read, and then one write.
use Rattle.std.specs.Prelude.{◌≡◌, ◌⊎◌, ℕ, ◌+◌, Bool, true, false}
use Rattle.thy_block.specs.declared.parameters.Parameters.{Parameters}
use Rattle.thy_table.specs.declared.place.Place.{Place}
use Rattle.thy_block.specs.Device.{HasFailed, HasFailedToWrite}
use Rattle.thy_table.specs.Places.{in_dram, number_of}
use Rattle.thy_table.specs.Devices.{Devices, read_at, written_at}

-- both devices after a block moved from one place to another
abbrev pub moved : Parameters → Place → Place → Devices → Devices
moved p from to d = written_at p to (read_at p d from) d

-- a move of a block failed at its read
pub record FailsAtRead (from : Place) (old new : Devices) : Type 0 where
  pub in_nvm : in_dram from ≡ false
  pub failed : HasFailed old.nvm new.nvm

-- a move of a block failed at its write: the place may hold the block, and no other has changed
pub record FailsAtWrite (p : Parameters) (from to : Place) (old new : Devices) : Type 0 where
  pub in_nvm : in_dram to ≡ false
  pub failed : HasFailedToWrite (number_of p to) (read_at p old from) old.nvm new.nvm

-- the move failed; the DRAM is as before
pub record FailsMove (p : Parameters) (from to : Place) (old new : Devices) : Type 0 where
  pub dram : new.dram ≡ old.dram
  pub failed : FailsAtRead from old new ⊎ FailsAtWrite p from to old new

-- of what is left to move, one less is left if any was left, and else none was and none is left
abbrev pub IsOneLess : Bool → ℕ → ℕ → Type 0
IsOneLess true old new = new + 1 ≡ old
IsOneLess false old new = (old ≡ 0) × (new ≡ 0)
