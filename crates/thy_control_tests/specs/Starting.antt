-- A machine of the least memory whose power is off, and one that boots.
use Rattle.std.specs.Prelude.{◌≡◌, ℕ, Bool, true, false, [], length}
use Rattle.thy_block.specs.declared.parameters.Parameters.{Parameters}
use Rattle.thy_block.specs.Device.{Device}
use Rattle.thy_block.specs.Geometry.{memory_blocks}
use Rattle.thy_table.specs.Places.{image_blocks}
use Rattle.thy_block.specs.Places.{dram_blocks}
use Rattle.thy_control.specs.State.{State}
use Rattle.thy_dram.specs.Contents.{Contents}
use Rattle.thy_isa.specs.Step.{State as Plain}
use Rattle.thy_computer.specs.declared.boot_step.BootStep.{BootStep}
use Rattle.thy_computer.specs.declared.boot_step.BootStep.TheVariants.{Refused}
use Rattle.thy_checkpoint.specs.Boot.{Booting}
use Rattle.thy_control_tests.specs.Beside.{all}
use Rattle.thy_control_tests.specs.Boots.{Boots}
use Rattle.thy_control_tests.specs.Memory.{HasRoom}

-- what a loss of power leaves
pub record Off : Type 0 where
  pub p : Parameters
  pub dram : Contents
  pub nvm : Device
  pub cuts : ℕ

-- both devices have the sizes of the least memory; the NVM is up, with nothing queued
pub record IsOff (m : Off) : Type 0 where
  pub blocks : memory_blocks m.p ≡ all
  pub dram : length m.dram.blocks ≡ dram_blocks m.p
  pub sized : length m.nvm.image ≡ image_blocks m.p
  pub settled : m.nvm.queue ≡ []
  pub up : m.nvm.down ≡ false
  pub room : HasRoom m.nvm m.cuts

pub record Starting : Type 0 where
  pub p : Parameters
  pub start : Plain
  pub boot : Booting
  pub control : State
  pub nvm : Device
  pub cuts : ℕ

abbrev pub starting : Parameters → Plain → Booting → State → Device → ℕ → Starting
starting p s b c n cuts = record { p = p; start = s; boot = b; control = c; nvm = n; cuts = cuts }

-- the boot may take a step, and its controller has no checkpoint under way
pub record IsStarting (m : Starting) : Type 0 where
  pub boots : Boots m.start m.nvm m.boot m.control
  pub same_p : m.boot.p ≡ m.p
  pub blocks : memory_blocks m.p ≡ all
  pub sized : length m.nvm.image ≡ image_blocks m.p
  pub idle : m.control.under_way ≡ false
  pub room : HasRoom m.nvm m.cuts

-- what was returned is a refusal
abbrev pub is_refused : BootStep → Bool
is_refused (Refused bad) = true
is_refused reported = false
