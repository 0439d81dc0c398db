-- A controller of the least memory with its engine, and the NVM below both.
use Rattle.std.specs.Prelude.{◌≡◌, ℕ, ◌+◌, ◌≤◌, length}
use Rattle.thy_block.specs.declared.parameters.Parameters.{Parameters}
use Rattle.thy_block.specs.Device.{Device}
use Rattle.thy_control.specs.State.{State}
use Rattle.thy_thynvm_parts.specs.Design.{items_thynvm}
use Rattle.thy_checkpoint.specs.Progress.{Progress, Fits}
use Rattle.thy_thynvm_parts.specs.Filling.{filling_thynvm}
use Rattle.thy_control_tests.specs.Driven.{Drives}

pub record MemoryParts : Type 0 where
  pub p : Parameters
  pub control : State
  pub engine : Progress
  pub nvm : Device
  -- how many cuts are to come at most
  pub cuts : ℕ

-- the NVM has room for this many cuts
abbrev pub HasRoom : Device → ℕ → Type 0
HasRoom n cuts = length n.left + cuts ≤ n.left_room

-- the controller can be driven, and belongs together with its engine
pub record IsMemory (m : MemoryParts) : Type 0 where
  pub same_p : m.control.p ≡ m.p
  pub drives : Drives m.control m.nvm
  pub fits : Fits filling_thynvm items_thynvm m.engine m.control
  pub room : HasRoom m.nvm m.cuts
