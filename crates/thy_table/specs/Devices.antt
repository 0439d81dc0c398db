-- Part of the claim.
-- What the places of both devices hold, and what a write at one makes of them.
use Rattle.std.specs.Prelude.{◌≡◌, ℕ, if◌then◌else◌, length}
use Rattle.thy_block.specs.declared.block.Block.{Block}
use Rattle.thy_block.specs.declared.parameters.Parameters.{Parameters}
use Rattle.thy_table.specs.declared.place.Place.{Place}
use Rattle.thy_block.specs.Device.{Device, CrashAt, block_at, newest, written_to}
use Rattle.thy_table.specs.Places.{in_dram, number_of, image_blocks}
use Rattle.thy_block.specs.Places.{dram_blocks}
use Rattle.thy_dram.specs.Contents.{Contents, written}

-- the contents of both devices
pub record Devices : Type 0 where
  pub nvm : Device
  pub dram : Contents

abbrev pub devices_of : Device → Contents → Devices
devices_of nvm dram = record { nvm = nvm; dram = dram }

-- each device has one block for each of its places
pub record AreSized (p : Parameters) (d : Devices) : Type 0 where
  pub nvm : length d.nvm.image ≡ image_blocks p
  pub dram : length d.dram.blocks ≡ dram_blocks p

-- what a read of a place gives, the newest write there included
abbrev pub read_at : Parameters → Devices → Place → Block
read_at p d place =
    if in_dram place then block_at d.dram.blocks (number_of p place) else newest d.nvm (number_of p place)

-- the devices after a write at a place: one of them has one write more, the other is as before
abbrev pub written_at : Parameters → Place → Block → Devices → Devices
written_at p place block d =
    if in_dram place
    then record d { dram = written d.dram (number_of p place) block }
    else record d { nvm = written_to d.nvm (number_of p place) block }

-- a place of the NVM, by its number, may hold after a cut nothing that it could not hold before
pub record NoMoreAt (x : ℕ) (old new : Device) : Type 0 where
  pub no_more : (b : Block) → CrashAt new x b → CrashAt old x b
