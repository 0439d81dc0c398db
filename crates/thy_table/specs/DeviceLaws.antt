-- Laws of places: a write is read at its place, and changes no other place.
use Rattle.std.specs.Prelude.{◌≡◌, ◌≢◌, ℕ, false}
use Rattle.thy_block.specs.declared.block.Block.{Block}
use Rattle.thy_block.specs.declared.parameters.Parameters.{Parameters}
use Rattle.thy_table.specs.declared.place.Place.{Place}
use Rattle.thy_block.specs.Device.{Device, HasFailedToWrite, drained, settled}
use Rattle.thy_table.specs.Places.{in_dram, number_of, IsPlace}
use Rattle.thy_dram.specs.Contents.{drained as dram_drained}
use Rattle.thy_table.specs.Devices.{Devices, AreSized, NoMoreAt, read_at, written_at}

-- a place reads as the block that was written there
abbrev pub WritesAreRead : Type 0
WritesAreRead =
    (p : Parameters) (d : Devices) (place : Place) (block : Block) → IsPlace p place → AreSized p d
    → read_at p (written_at p place block d) place ≡ block

-- every other place of both devices reads as before
abbrev pub OthersReadAsBefore : Type 0
OthersReadAsBefore =
    (p : Parameters) (d : Devices) (place other : Place) (block : Block)
    → IsPlace p place → IsPlace p other → AreSized p d → other ≢ place
    → read_at p (written_at p place block d) other ≡ read_at p d other

-- a write makes nothing new possible at any other place of the NVM
abbrev pub OthersHoldNoMore : Type 0
OthersHoldNoMore =
    (p : Parameters) (d : Devices) (place other : Place) (block : Block)
    → IsPlace p place → IsPlace p other → in_dram other ≡ false → other ≢ place
    → NoMoreAt (number_of p other) d.nvm (written_at p place block d).nvm

-- a write that failed makes nothing new possible at any other place of the NVM
abbrev pub OthersHoldNoMoreOnFailure : Type 0
OthersHoldNoMoreOnFailure =
    (p : Parameters) (old new : Device) (place other : Place) (block : Block)
    → IsPlace p place → IsPlace p other → in_dram place ≡ false → in_dram other ≡ false → other ≢ place
    → HasFailedToWrite (number_of p place) block old new → NoMoreAt (number_of p other) old new

-- a write leaves both devices as long as they were
abbrev pub WritesKeepSizes : Type 0
WritesKeepSizes =
    (p : Parameters) (d : Devices) (place : Place) (block : Block) → AreSized p d → AreSized p (written_at p place block d)

-- a drain or a barrier of the NVM, or a drain of the DRAM, changes nothing that is read
pub record ReadsTheSame (p : Parameters) (d e : Devices) : Type 0 where
  pub same : (place : Place) → IsPlace p place → read_at p e place ≡ read_at p d place
  pub sized : AreSized p e

abbrev pub LandingMovesNothing : Type 0
LandingMovesNothing =
    (p : Parameters) (d : Devices) → AreSized p d
    → ReadsTheSame p d (record d { nvm = drained d.nvm })
    × ((count : ℕ) → ReadsTheSame p d (record d { nvm = settled count d.nvm }))
    × ReadsTheSame p d (record d { dram = dram_drained d.dram })
