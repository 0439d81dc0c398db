-- What a step of the engine, a seal, and writes that land make of a scheme and of its checkpoints.
use Rattle.std.specs.Prelude.{◌≡◌, ℕ, ◌+◌, ◌<◌, true, false, Some, None}
use Rattle.thy_block.specs.declared.mark.Mark.{Mark}
use Rattle.thy_block.specs.Device.{Device, IsFramed}
use Rattle.thy_isa.specs.declared.state.CpuState.{CpuState}
use Rattle.thy_isa.specs.OnBlocks.{state_from}
use Rattle.thy_layout.specs.Cpu.{IsRecordable}
use Rattle.thy_layout.specs.Layout.{reading}
use Rattle.thy_computer.specs.Action.{IsAfter, after, FailsTo}
use Rattle.thy_computer.specs.Origin.{Origin, at}
use Rattle.thy_computer.specs.Safe.{ceiling, Safe}
use Rattle.thy_scheme.specs.CheckpointMarks.{CheckpointMarks, doubt_in, marks_after, marks_after_fault}
use Rattle.thy_checkpoint.specs.Progress.{is_under_way, action_next}
use Rattle.thy_checkpoint.specs.Boot.{Booting, IsBoot, answer_of}
use Rattle.thy_checkpoint.specs.Steps.{Steps}
use Rattle.thy_scheme.specs.Boots.{BootDrains, BootsOn}
use Rattle.thy_scheme.specs.Calls.{Drains, EngineFails, Engines, Merges, Promotes, Seals}
use Rattle.thy_scheme.specs.Scheme.{Stands, IsBooting}
use Rattle.thy_scheme_parts.specs.Boots.{booted}
use Rattle.thy_scheme_parts.specs.Calls.{taken, step_of, sealed}
use Rattle.thy_scheme_parts.specs.Design.{DesignOf, Composed}
use Rattle.thy_scheme_parts.specs.Scheme.{scheme_of}
use Rattle.thy_scheme_parts.specs.Moments.{ReadsSame}
use Rattle.thy_scheme_parts.specs.Sound.{IsSound}

-- the NVM after the item that is next, but for what it counts
abbrev pub device_taken : {C : Type 0} → DesignOf C → Composed C → Device → Device
device_taken D s n = after n.writes (action_next D.filling D.items s.engine s.control n) n

-- ---- laws

-- over a device that gives the same to every read all that holds stays
abbrev pub SameReadsKeep : {C : Type 0} → DesignOf C → Type 0
SameReadsKeep {C} D =
    (o : Origin) (k : CheckpointMarks) (s : Composed C) (n m : Device) → IsSound D o k s n → ReadsSame n m → IsSound D o k s m

-- once a write of the DRAM landed all that holds stays
abbrev pub DramDrainKeeps : {C : Type 0} → DesignOf C → Type 0
DramDrainKeeps {C} D =
    (o : Origin) (k : CheckpointMarks) (s : Composed C) (n : Device)
    → IsSound D o k s n → IsSound D o k (record s { control = D.filling.drained s.control }) n

-- every item reaches the checkpoints of the marks after it
abbrev pub ItemsKeepSound : {C : Type 0} → DesignOf C → Type 0
ItemsKeepSound {C} D =
    (o : Origin) (k : CheckpointMarks) (s : Composed C) (n : Device)
    → IsSound D o k s n → is_under_way s.engine.stage ≡ true
    → IsSound D o (marks_after (step_of D s) k) (taken D s) (device_taken D s n)

-- if it failed, what a cut leaves is the committed checkpoint, whole, or the sealed one, if its commit block was written
abbrev pub FailedItemsAreSafe : {C : Type 0} → DesignOf C → Type 0
FailedItemsAreSafe {C} D =
    (o : Origin) (k : CheckpointMarks) (s : Composed C) (n m : Device)
    → IsSound D o k s n → is_under_way s.engine.stage ≡ true
    → FailsTo (action_next D.filling D.items s.engine s.control n) n m → IsFramed n m
    → Safe (reading D.filling.layouts) o (Some k.done) (doubt_in (marks_after_fault (step_of D s) k)) m

-- whatever a cut leaves is safe
abbrev pub SoundIsSafe : {C : Type 0} → DesignOf C → Type 0
SoundIsSafe {C} D =
    (o : Origin) (k : CheckpointMarks) (s : Composed C) (n : Device)
    → IsSound D o k s n → Safe (reading D.filling.layouts) o (Some k.done) (doubt_in k) n

-- the machine is at a mark, whose checkpoint comes next
pub record IsNext {C : Type 0} (D : DesignOf C) (o : Origin) (k : CheckpointMarks) (cpu : CpuState) (epoch : ℕ) (m : Mark)
    (s : Composed C) (n : Device) : Type 0 where
  pub unsealed : k.sealed ≡ None
  pub unwritten : k.written ≡ false
  pub next : epoch ≡ k.done.epoch + 1
  pub of_epoch : m.epoch ≡ epoch
  pub small : epoch < ceiling
  pub recordable : IsRecordable o.geometry ceiling cpu
  pub state : state_from o.geometry cpu (D.filling.loads s.control n) ≡ at o m.count
  pub counted : (at o m.count).count ≡ m.count

-- a seal makes the mark that the machine is at the sealed one
abbrev pub SealKeepsSound : {C : Type 0} → DesignOf C → Type 0
SealKeepsSound {C} D =
    (o : Origin) (k : CheckpointMarks) (cpu : CpuState) (epoch : ℕ) (m : Mark) (s : Composed C) (n : Device)
    → IsSound D o k s n → is_under_way s.engine.stage ≡ false
    → D.parts.pages.promoting s.control ≡ false → D.parts.pages.overlaid s.control ≡ false → IsNext D o k cpu epoch m s n
    → IsSound D o (record k { sealed = Some m }) (sealed D cpu epoch s) n

-- ---- what each call promises

-- every step of the engine keeps the checkpoints, and one that failed is safe
abbrev pub ItemsAreSteps : {C : Type 0} → DesignOf C → Type 0
ItemsAreSteps {C} D =
    (o : Origin) (k : CheckpointMarks) (s : Composed C) (n : Device)
    → Stands (scheme_of D) o k s n → is_under_way s.engine.stage ≡ true
    → ((new : Device) → IsAfter (action_next D.filling D.items s.engine s.control n) n new
    → Engines (scheme_of D) o k (step_of D s) s n (taken D s) new)
    × ((new : Device)
    → FailsTo (action_next D.filling D.items s.engine s.control n) n new → IsFramed n new → EngineFails (scheme_of D) o k n new)

-- a seal keeps the checkpoints
abbrev pub SealsKeep : {C : Type 0} → DesignOf C → Type 0
SealsKeep {C} D =
    (o : Origin) (k : CheckpointMarks) (cpu : CpuState) (epoch : ℕ) (s : Composed C) (n : Device)
    → Stands (scheme_of D) o k s n → is_under_way s.engine.stage ≡ false
    → D.parts.pages.promoting s.control ≡ false → D.parts.pages.overlaid s.control ≡ false
    → Seals (scheme_of D) o k cpu epoch s n (sealed D cpu epoch s)

-- a composed scheme with another controller
abbrev pub with_control : {C : Type 0} → C → Composed C → Composed C
with_control c s = record s { control = c }

-- a drain of the DRAM keeps the checkpoints, after the boot and in it
abbrev pub DrainsKeep : {C : Type 0} → DesignOf C → Type 0
DrainsKeep {C} D =
    (o : Origin) (s : Composed C) (n : Device) → 0 < (D.filling.dram s.control).queued
    → ((k : CheckpointMarks) → Stands (scheme_of D) o k s n → Drains (scheme_of D) o k s n (with_control (D.filling.drained s.control) s))
    × (IsBooting (scheme_of D) o s n → BootDrains (scheme_of D) o s n (with_control (D.filling.drained s.control) s))

-- a merge keeps the checkpoints
abbrev pub MergesKeep : {C : Type 0} → DesignOf C → Type 0
MergesKeep {C} D =
    (o : Origin) (k : CheckpointMarks) (s : Composed C) (n : Device)
    → Stands (scheme_of D) o k s n → is_under_way s.engine.stage ≡ false → D.parts.pages.overlaid s.control ≡ true
    → Merges (scheme_of D) o k s n (with_control (D.parts.pages.merged s.control) s)

abbrev pub PromotionsKeep : {C : Type 0} → DesignOf C → Type 0
PromotionsKeep {C} D =
    (o : Origin) (k : CheckpointMarks) (s : Composed C) (n : Device)
    → Stands (scheme_of D) o k s n → D.parts.pages.promoting s.control ≡ true
    → Promotes (scheme_of D) o k s n (with_control (D.parts.pages.promoted s.control n) s) n

-- a boot with a start that can be recorded, after a step: it is not over, or the checkpoint is the committed one
abbrev pub StepsBoot : {C : Type 0} → DesignOf C → Type 0
StepsBoot {C} D =
    (o : Origin) (s : Composed C) (n : Device) (new : Device) (d : Booting) (e : C)
    → IsBooting (scheme_of D) o s n → Steps D.filling o.start n s.boot s.control new d e
    → IsBoot D.filling d → D.parts.sound e → BootsOn (scheme_of D) o (answer_of D.filling d) s n (booted D d e s) new
