-- What tests of a scheme's parts begin with: the least memory, and what a loss of power leaves.
use Rattle.std.specs.Prelude.{◌≡◌, ℕ, ◌+◌, ◌≤◌, Bool, true, false, length}
use Rattle.thy_block.specs.declared.parameters.Parameters.{Parameters}
use Rattle.thy_block.specs.Device.{Device}
use Rattle.thy_dram.specs.Contents.{Contents}
use Rattle.thy_computer.specs.declared.boot_step.BootStep.{BootStep}
use Rattle.thy_computer.specs.declared.boot_step.BootStep.TheVariants.{GoesOn}

-- how many blocks the least memory has
abbrev pub all : ℕ
all = 512

-- the NVM has room for this many cuts
abbrev pub HasRoom : Device → ℕ → Type 0
HasRoom n cuts = length n.left + cuts ≤ n.left_room

-- what a loss of power leaves
pub record Off : Type 0 where
  pub p : Parameters
  pub dram : Contents
  pub nvm : Device
  -- how many cuts are to come at most
  pub cuts : ℕ

abbrev pub off : Parameters → Contents → Device → ℕ → Off
off p dram n cuts = record { p = p; dram = dram; nvm = n; cuts = cuts }

-- what a boot returned says that it continues
abbrev pub goes_on : BootStep → Bool
goes_on GoesOn = true
goes_on reported = false
