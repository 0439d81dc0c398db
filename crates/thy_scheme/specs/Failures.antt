-- What a cycle leaves that failed, by what it was to do: over any scheme, from what the call left.
use Rattle.std.specs.Prelude.{◌≡◌, ℕ, true, false}
use Rattle.thy_block.specs.declared.mark.Mark.{Mark}
use Rattle.thy_block.specs.Device.{Device, HasFailed, IsFramed}
use Rattle.thy_computer.specs.declared.did.Did.{Did}
use Rattle.thy_computer.specs.declared.did.Did.TheVariants.{Moved, Flushed, Promoted, NvmDrained}
use Rattle.thy_computer.specs.declared.view.Phase.TheVariants.{Boot, Run}
use Rattle.thy_computer.specs.Action.{ActionFailedBy, doubt_after_fault}
use Rattle.thy_computer.specs.Booting.{boot_did}
use Rattle.thy_computer.specs.Origin.{Origin}
use Rattle.thy_computer.specs.Safe.{Safe}
use Rattle.thy_computer.specs.Views.{IsRestarting}
use Rattle.thy_scheme.specs.Scheme.{SchemeOf, StaysOf}
use Rattle.thy_scheme.specs.Calls.{IsOneAccess, PromotionFails, EngineFails, engine_did}
use Rattle.thy_scheme.specs.Boots.{BootFails}
use Rattle.thy_scheme.specs.Machine.{Machine, view_of}
use Rattle.thy_scheme.specs.Rows.{IsMoment, HartGoes, IsSealing}

-- A cycle that was to do this failed in its action. It leaves the committed checkpoint, whole, or the one in doubt, as
-- the action decides, and a scheme of the run's geometry. In a boot that found a checkpoint it wrote nothing, unless
-- the scheme migrates.
pub record Fails {S : Type 0} (K : SchemeOf S) (o : Origin) (did : Did) (m : Machine S) (t : S) (n new : Device) : Type 0 where
  pub failed : ActionFailedBy (K.migrates m.scheme) did n new
  pub safe : Safe K.decode o (view_of K o m n).done (doubt_after_fault failed.action (view_of K o m n)) new
  pub of_geometry : K.is_of o.geometry t
  pub still : (found : Mark) → IsRestarting (view_of K o m n) found → K.migrates m.scheme ≡ false → HasFailed n new

-- a load or a store of the hart
abbrev pub HartFails : {S : Type 0} → SchemeOf S → Type 0
HartFails {S} K =
    (o : Origin) (cycles : ℕ) (m : Machine S) (n : Device) (t : S) (new : Device)
    → IsMoment K o cycles m n → HartGoes K o m n → IsOneAccess K m.scheme n t new → new.down ≡ true → Fails K o Moved m t n new

-- a store of a line
abbrev pub FlushFails : {S : Type 0} → SchemeOf S → Type 0
FlushFails {S} K =
    (o : Origin) (cycles : ℕ) (m : Machine S) (n : Device) (t : S) (new : Device)
    → IsMoment K o cycles m n → IsSealing K o m n → IsOneAccess K m.scheme n t new → new.down ≡ true → Fails K o Flushed m t n new

abbrev pub PromotionLeaves : {S : Type 0} → SchemeOf S → Type 0
PromotionLeaves {S} K =
    (o : Origin) (cycles : ℕ) (m : Machine S) (n : Device) (t : S) (new : Device)
    → IsMoment K o cycles m n → m.phase ≡ Run → PromotionFails n new → StaysOf K m.scheme t → Fails K o Promoted m t n new

-- a step of the engine, or of the boot, in what it was to do
abbrev pub EngineLeaves : {S : Type 0} → SchemeOf S → Type 0
EngineLeaves {S} K =
    (o : Origin) (cycles : ℕ) (m : Machine S) (n : Device) (t : S) (new : Device)
    → IsMoment K o cycles m n → m.phase ≡ Run → (e : EngineFails K o m.marks n new) → StaysOf K m.scheme t
    → Fails K o (engine_did m.lap e.step) m t n new

abbrev pub BootLeaves : {S : Type 0} → SchemeOf S → Type 0
BootLeaves {S} K =
    (o : Origin) (cycles : ℕ) (m : Machine S) (n : Device) (t : S) (new : Device)
    → IsMoment K o cycles m n → m.phase ≡ Boot → (b : BootFails K o m.scheme n new) → StaysOf K m.scheme t
    → Fails K o (boot_did b.step) m t n new

-- a drain of the NVM
abbrev pub DrainFails : {S : Type 0} → SchemeOf S → Type 0
DrainFails {S} K =
    (o : Origin) (cycles : ℕ) (m : Machine S) (n new : Device)
    → IsMoment K o cycles m n → HasFailed n new → IsFramed n new → Fails K o NvmDrained m m.scheme n new
