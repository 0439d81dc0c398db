-- A device of a run that is one in memory, or has the lines that one in memory holds.
use Rattle.std.specs.Prelude.{◌≡◌, ℕ, ◌+◌, Bool, true, false, List, [], length}
use Rattle.thy_block.specs.declared.block.Block.{Block}
use Rattle.thy_block.specs.Device.{Device, Crash}
use Rattle.thy_gap.specs.Seen.{seen_as}

-- the device of a run, the one in memory on which it lies, and whether it has lines
pub record Lying : Type 0 where
  pub levels : Bool
  pub memory : Device
  pub seen : Device

abbrev pub lying : Bool → Device → Device → Lying
lying levels memory seen = record { levels = levels; memory = memory; seen = seen }

-- how many blocks the device in memory has, if the run's has this number: with lines two more
abbrev pub blocks_below : Bool → ℕ → ℕ
blocks_below false blocks = blocks
blocks_below true blocks = blocks + 2

-- what the device in memory means to the run
pub record LiesOn (levels : Bool) (memory seen : Device) : Type 0 where
  -- without lines it is the run's device
  pub direct : levels ≡ false → seen ≡ memory
  pub image : seen_as levels memory.image ≡ seen.image
  -- what a cut may leave of it means what a cut may leave of the run's device
  pub crash : (g : List Block) → Crash memory g → Crash seen (seen_as levels g)
  pub whole : seen.whole ≡ memory.whole
  pub blocks : length memory.image ≡ blocks_below levels (length seen.image)
  pub queue_room : memory.queue_room ≡ seen.queue_room

-- a device in memory holds what a cut may leave of another one: it is up, nothing is queued, and no image is kept
pub record HoldsLeft (memory copy : Device) : Type 0 where
  pub crash : Crash memory copy.image
  pub up : copy.down ≡ false
  pub empty : copy.queue ≡ []
  pub unkept : copy.left ≡ []
