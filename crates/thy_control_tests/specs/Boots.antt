-- A boot that a test drives over an NVM.
use Rattle.std.specs.Prelude.{◌≡◌, Bool, true, false, [], length}
use Rattle.thy_block.specs.declared.parameters.Parameters.{Parameters}
use Rattle.thy_block.specs.Device.{Device}
use Rattle.thy_dram.specs.Contents.{Contents}
use Rattle.thy_isa.specs.Step.{State as Plain}
use Rattle.thy_control.specs.State.{State, new_state}
use Rattle.thy_computer.specs.declared.boot_step.BootStep.{BootStep}
use Rattle.thy_computer.specs.declared.boot_step.BootStep.TheVariants.{GoesOn}
use Rattle.thy_checkpoint.specs.Boot.{Booting, IsBoot}
use Rattle.thy_checkpoint.specs.Steps.{CanStep}
use Rattle.thy_checkpoint.specs.Start.{CanStart}
use Rattle.thy_thynvm_parts.specs.Filling.{filling_thynvm}

-- a boot may take a step, with this start
pub record Boots (s : Plain) (n : Device) (b : Booting) (c : State) : Type 0 where
  pub start : CanStart b.p s
  pub up : n.down ≡ false
  pub same_p : c.p ≡ b.p
  pub fits : IsBoot filling_thynvm b
  pub may : CanStep filling_thynvm s n b c

-- the boot continues
abbrev pub goes_on : BootStep → Bool
goes_on GoesOn = true
goes_on reported = false

-- a controller is a new one of a geometry
pub record IsNew (p : Parameters) (c : State) : Type 0 where
  pub dram : Contents
  pub is : c ≡ new_state p dram

-- the NVM has the size of the least memory, is up, and has nothing queued
pub record IsReady (n : Device) : Type 0 where
  pub sized : length n.image ≡ 1064
  pub settled : n.queue ≡ []
  pub up : n.down ≡ false
