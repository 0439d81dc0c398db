-- Part of the claim.
-- Writes that were queued land: by a drain of the DRAM, and by a drain or a barrier of the NVM below the controller.
use Rattle.std.specs.Prelude.{◌≡◌, ℕ, ◌+◌, ◌<◌, length}
use Rattle.thy_table.specs.declared.place.Place.{Place}
use Rattle.thy_block.specs.Device.{Device, newest, HoldsNoMore, drained as nvm_drained, settled}
use Rattle.thy_table.specs.Places.{IsPlace}
use Rattle.thy_dram.specs.Contents.{drained}
use Rattle.thy_control.specs.State.{State, AreSoundTables, IsSized, reads}
use Rattle.thy_control.specs.Stays.{HoldAll, Stays}

-- the controller after a drain of the DRAM
abbrev pub after_drain : State → State
after_drain s = record s { dram = drained s.dram }

-- whatever NVM is below the controller, every place of both devices reads as before
abbrev pub ReadsAlike : State → State → Type 0
ReadsAlike s t = (nvm : Device) (place : Place) → reads t nvm place ≡ reads s nvm place

-- writes of the NVM landed: each place of it reads as before, and none may hold after a cut what it could not hold before
pub record Lands (m n : Device) : Type 0 where
  pub as_long : length n.image ≡ length m.image
  pub same_down : n.down ≡ m.down
  pub newest_same : (x : ℕ) → x < length m.image → newest n x ≡ newest m x
  pub no_more : HoldsNoMore m n

-- what happened is not seen: every place of both devices reads as before, the places hold what they have to if they
-- did, and both checkpoints stay
pub record IsUnseen (s : State) (m : Device) (t : State) (n : Device) : Type 0 where
  pub reads_same : (place : Place) → IsPlace s.p place → reads t n place ≡ reads s m place
  pub holds : HoldAll s m → HoldAll t n
  pub stays : Stays s m t n

-- writes of the NVM that landed are not seen, whether it is up or down: by a drain, by a barrier, or otherwise
abbrev pub LandingIsUnseen : Type 0
LandingIsUnseen = (s : State) (m n : Device) → AreSoundTables s → IsSized s m → Lands m n → IsUnseen s m s n

abbrev pub NvmDrainIsUnseen : Type 0
NvmDrainIsUnseen = (s : State) (m : Device) → AreSoundTables s → IsSized s m → IsUnseen s m s (nvm_drained m)

abbrev pub BarrierIsUnseen : Type 0
BarrierIsUnseen = (s : State) (m : Device) (count : ℕ) → AreSoundTables s → IsSized s m → IsUnseen s m s (settled count m)

-- a drain of the DRAM, after which one write less is queued, is not seen
abbrev pub DrainIsUnseen : Type 0
DrainIsUnseen = (s : State) (m : Device) → IsUnseen s m (after_drain s) m

abbrev pub DrainTakesOne : Type 0
DrainTakesOne = (s : State) → 0 < s.dram.queued → (after_drain s).dram.queued + 1 ≡ s.dram.queued
