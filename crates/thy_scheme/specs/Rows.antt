-- What each cycle makes of the machine, by what it did: over any scheme, from what the calls leave.
use Rattle.std.specs.Prelude.{◌≡◌, ◌≢◌, ℕ, ◌+◌, ◌^◌, ◌<◌, true, false, [], length, Some, None}
use Rattle.thy_block.specs.declared.cause.EndCause.{EndCause}
use Rattle.thy_block.specs.declared.mark.Mark.{Mark}
use Rattle.thy_block.specs.Device.{Device, drained}
use Rattle.thy_cache.specs.declared.line.Flushed.{Flushed}
use Rattle.thy_cache.specs.Contents.{Contents, dirty_count}
use Rattle.thy_hart.specs.declared.hand.HartStep.{HartStep}
use Rattle.thy_hart.specs.Outcomes.{given}
use Rattle.thy_hart.specs.HartState.{HartState}
use Rattle.thy_layout.specs.declared.engine_step.EngineStep.{EngineStep}
use Rattle.thy_computer.specs.declared.boot_step.BootStep.{BootStep}
use Rattle.thy_computer.specs.declared.did.Did.{Did}
use Rattle.thy_computer.specs.declared.did.Did.TheVariants.{Moved, Flushed as DidFlush, Merged, Promoted, Sealed, NvmDrained, DramDrained, Nothing}
use Rattle.thy_computer.specs.declared.did.Stall.TheVariants.{Sealing}
use Rattle.thy_computer.specs.declared.view.Phase.TheVariants.{Boot, Run, Halt}
use Rattle.thy_computer.specs.Action.{ActsBy}
use Rattle.thy_computer.specs.Booting.{boot_did}
use Rattle.thy_computer.specs.CoreStep.{CoreStep}
use Rattle.thy_computer.specs.Dram.{LeavesDram}
use Rattle.thy_computer.specs.Origin.{Origin}
use Rattle.thy_computer.specs.Pace.{KeepsPace}
use Rattle.thy_computer.specs.Stores.{Dirties}
use Rattle.thy_computer.specs.WithTurns.{HasTurn}
use Rattle.thy_computer.specs.NextActor.{Advances, HandsOn, stall_in, over_by}
use Rattle.thy_computer.specs.Views.{IsRestarting}
use Rattle.thy_computer.specs.Work.{Works}
use Rattle.thy_scheme.specs.Scheme.{SchemeOf}
use Rattle.thy_scheme.specs.Calls.{Merges, Promotes, Drains, Seals, Engines, engine_did}
use Rattle.thy_scheme.specs.Boots.{BootsOn, BootDrains}
use Rattle.thy_scheme.specs.Laws.{IsLawful}
use Rattle.thy_scheme.specs.Machine.{Machine, view_of, pressure_of, gauge_of, has_read_of}
use Rattle.thy_scheme.specs.Pace.{most_spent}
use Rattle.thy_scheme.specs.Sound.{Sound}
use Rattle.thy_scheme.specs.MachineCalls.{HartCall, FlushCall, begun_by_hart, hart_did, after_hart, after_flush, after_call, after_drain, after_seal, after_engine, after_boot}

-- A cycle that did this leads to the next moment: by a step of the view, one action of both devices, and within bounds,
-- and gets done what it says. No more lines become dirty than entries are used that the instruction in hand has
-- secured. In a boot that found a checkpoint it leaves the NVM as it was, unless the scheme migrates.
pub record SimulatesCycle {S : Type 0} (K : SchemeOf S) (o : Origin) (cycles : ℕ) (did : Did) (m : Machine S) (n : Device) (next : Machine S) (new : Device) : Type 0 where
  pub at_next : Sound K o (cycles + 1) next new
  pub step : CoreStep o (view_of K o m n) did (view_of K o next new)
  pub acts : ActsBy (K.migrates m.scheme) did n new
  pub dram : LeavesDram did n new (K.dram m.scheme) (K.dram next.scheme)
  pub pace : KeepsPace (most_spent K o.geometry) (view_of K o m n) (view_of K o next new) did (gauge_of K m n) (gauge_of K next new)
  pub works : Works did (gauge_of K m n) (gauge_of K next new) n new (K.dram m.scheme) (K.dram next.scheme)
  pub dirties : Dirties o (view_of K o m n) did (pressure_of K m) (pressure_of K next) (gauge_of K m n) (gauge_of K next new)
  pub exhausts : did ≡ Moved → (view_of K o next new).over ≡ over_by (pressure_of K m).short
  pub read : n.queue ≡ [] → has_read_of K next ≡ true
  pub still : (found : Mark) → IsRestarting (view_of K o m n) found → K.migrates m.scheme ≡ false → new ≡ n

-- a moment of a run, over a lawful scheme
pub record IsMoment {S : Type 0} (K : SchemeOf S) (o : Origin) (cycles : ℕ) (m : Machine S) (n : Device) : Type 0 where
  pub lawful : IsLawful K
  pub sound : Sound K o cycles m n

-- one within a run's cycles
pub record At {S : Type 0} (K : SchemeOf S) (o : Origin) (cycles : ℕ) (m : Machine S) (n : Device) : Type 0 where
  pub lawful : IsLawful K
  pub sound : Sound K o cycles m n
  pub few : cycles < 2 ^ 62

-- the hart runs, and nothing keeps it from going on
pub record HartGoes {S : Type 0} (K : SchemeOf S) (o : Origin) (m : Machine S) (n : Device) : Type 0 where
  pub phase : m.phase ≡ Run
  pub free : stall_in o Run (view_of K o m n) (pressure_of K m) ≡ None

-- this hart advances its instruction: it is one of the geometry's harts, nothing keeps it from going on, and an
-- instruction that is begun is its own
pub record HartAdvances {S : Type 0} (K : SchemeOf S) (o : Origin) (m : Machine S) (n : Device) (hart : ℕ) : Type 0 where
  pub goes : HartGoes K o m n
  pub there : hart < o.geometry.harts
  pub own : (begun : ℕ) → m.begun ≡ Some begun → begun ≡ hart

-- what comes before a seal is done, at the hart's turn
pub record IsSealing {S : Type 0} (K : SchemeOf S) (o : Origin) (m : Machine S) (n : Device) : Type 0 where
  pub phase : m.phase ≡ Run
  pub stalled : stall_in o Run (view_of K o m n) (pressure_of K m) ≡ Some Sealing

-- ---- the hart

-- Moved, Retired, and the end of an epoch; an instruction that is retired has its turn
abbrev pub HartSimulates : {S : Type 0} → SchemeOf S → Type 0
HartSimulates {S} K =
    (o : Origin) (cycles : ℕ) (m : Machine S) (n : Device) (hart : ℕ) (h : HartState) (c : Contents) (t : S) (new : Device) (step : HartStep)
    → At K o cycles m n → HartAdvances K o m n hart
    → HartCall K (given o.input (K.free m.scheme) (K.under_way m.scheme)) (begun_by_hart hart m) n h c t new step
    → HasTurn o (view_of K o m n) (hart_did hart step)
    → SimulatesCycle K o cycles (hart_did hart step) m n (after_hart hart step h c t m) new

-- an instruction stays its hart's until it is retired or dropped
abbrev pub HartHandsOn : {S : Type 0} → SchemeOf S → Type 0
HartHandsOn {S} K =
    (o : Origin) (cycles : ℕ) (m : Machine S) (n : Device) (hart : ℕ) (h : HartState) (c : Contents) (t : S) (new : Device) (step : HartStep)
    → At K o cycles m n → HartAdvances K o m n hart
    → HartCall K (given o.input (K.free m.scheme) (K.under_way m.scheme)) (begun_by_hart hart m) n h c t new step
    → HandsOn (Advances hart) (hart_did hart step) (pressure_of K m) (pressure_of K (after_hart hart step h c t m))

-- ---- before a seal, and the seal

abbrev pub FlushSimulates : {S : Type 0} → SchemeOf S → Type 0
FlushSimulates {S} K =
    (o : Origin) (cycles : ℕ) (m : Machine S) (n : Device) (c : Contents) (t : S) (new : Device) (flushed : Flushed)
    → At K o cycles m n → IsSealing K o m n → K.promoting m.scheme ≡ false → FlushCall K m n flushed c t new
    → SimulatesCycle K o cycles DidFlush m n (after_flush c t m) new

abbrev pub MergeSimulates : {S : Type 0} → SchemeOf S → Type 0
MergeSimulates {S} K =
    (o : Origin) (cycles : ℕ) (m : Machine S) (n : Device) (t : S)
    → At K o cycles m n → IsSealing K o m n → K.promoting m.scheme ≡ false → dirty_count m.cache ≡ 0
    → Merges K o m.marks m.scheme n t → SimulatesCycle K o cycles Merged m n (after_call t m) n

abbrev pub PromotionSimulates : {S : Type 0} → SchemeOf S → Type 0
PromotionSimulates {S} K =
    (o : Origin) (cycles : ℕ) (m : Machine S) (n : Device) (t : S) (new : Device)
    → At K o cycles m n → IsSealing K o m n → K.promoting m.scheme ≡ true
    → Promotes K o m.marks m.scheme n t new → SimulatesCycle K o cycles Promoted m n (after_call t m) new

abbrev pub SealSimulates : {S : Type 0} → SchemeOf S → Type 0
SealSimulates {S} K =
    (o : Origin) (cycles : ℕ) (m : Machine S) (n : Device) (t : S) (cause : EndCause)
    → At K o cycles m n → IsSealing K o m n → K.promoting m.scheme ≡ false → K.overlaid m.scheme ≡ false
    → dirty_count m.cache ≡ 0 → m.hart.epoch.over ≡ Some cause
    → Seals K o m.marks m.hart.cpu m.hart.epoch.number m.scheme n t
    → SimulatesCycle K o cycles (Sealed m.hart.epoch.number m.hart.cpu.count cause) m n (after_seal t m) n

-- ---- the engine

-- what a cycle of the engine leads to, a commit among them
abbrev pub EngineSimulates : {S : Type 0} → SchemeOf S → Type 0
EngineSimulates {S} K =
    (o : Origin) (cycles : ℕ) (m : Machine S) (n : Device) (t : S) (new : Device) (step : EngineStep)
    → At K o cycles m n → m.phase ≡ Run → K.under_way m.scheme ≡ true → Engines K o m.marks step m.scheme n t new
    → SimulatesCycle K o cycles (engine_did m.lap step) m n (after_engine step t m) new

-- ---- drains, in each phase

abbrev pub NvmDrainSimulates : {S : Type 0} → SchemeOf S → Type 0
NvmDrainSimulates {S} K =
    (o : Origin) (cycles : ℕ) (m : Machine S) (n : Device)
    → At K o cycles m n → 0 < length n.queue → SimulatesCycle K o cycles NvmDrained m n m (drained n)

abbrev pub DramDrainSimulates : {S : Type 0} → SchemeOf S → Type 0
DramDrainSimulates {S} K =
    (o : Origin) (cycles : ℕ) (m : Machine S) (n : Device) (t : S)
    → At K o cycles m n → m.phase ≢ Boot → 0 < K.queued m.scheme → Drains K o m.marks m.scheme n t
    → SimulatesCycle K o cycles DramDrained m n (after_drain t m) n

abbrev pub BootDrainSimulates : {S : Type 0} → SchemeOf S → Type 0
BootDrainSimulates {S} K =
    (o : Origin) (cycles : ℕ) (m : Machine S) (n : Device) (t : S)
    → At K o cycles m n → m.phase ≡ Boot → 0 < K.queued m.scheme → BootDrains K o m.scheme n t
    → SimulatesCycle K o cycles DramDrained m n (after_drain t m) n

abbrev pub HaltSimulates : {S : Type 0} → SchemeOf S → Type 0
HaltSimulates {S} K =
    (o : Origin) (cycles : ℕ) (m : Machine S) (n : Device)
    → At K o cycles m n → m.phase ≡ Halt → SimulatesCycle K o cycles Nothing m n m n

-- ---- the boot

abbrev pub BootSimulates : {S : Type 0} → SchemeOf S → Type 0
BootSimulates {S} K =
    (o : Origin) (cycles : ℕ) (m : Machine S) (n : Device) (t : S) (new : Device) (step : BootStep)
    → At K o cycles m n → m.phase ≡ Boot → BootsOn K o step m.scheme n t new
    → SimulatesCycle K o cycles (boot_did step) m n (after_boot o step t m) new
