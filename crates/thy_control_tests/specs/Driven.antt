-- A controller of the least memory that a test drives, with the NVM below it.
use Rattle.std.specs.Prelude.{◌≡◌, false}
use Rattle.thy_block.specs.Device.{Device}
use Rattle.thy_block.specs.Geometry.{memory_blocks}
use Rattle.thy_control.specs.State.{State, IsSized}
use Rattle.thy_control_tests.specs.Beside.{all}

-- the controller has the least memory; the NVM has its size, and is up
pub record Drives (s : State) (n : Device) : Type 0 where
  pub blocks : memory_blocks s.p ≡ all
  pub sized : IsSized s n
  pub up : n.down ≡ false
