-- What the calls of a scheme promise in the boot.
use Rattle.std.specs.Prelude.{◌≡◌, ◌⊎◌, ℕ, ◌+◌, ◌≤◌, true, false, Some, None}
use Rattle.thy_block.specs.declared.mark.Mark.{Mark}
use Rattle.thy_block.specs.Device.{Device, HasFailed}
use Rattle.thy_block.specs.Marks.{mark}
use Rattle.thy_dram.specs.Contents.{drained}
use Rattle.thy_isa.specs.declared.state.CpuState.{CpuState}
use Rattle.thy_isa.specs.OnBlocks.{state_from}
use Rattle.thy_isa.specs.Step.{cpu_of}
use Rattle.thy_layout.specs.Cpu.{IsRecordable}
use Rattle.thy_computer.specs.declared.boot_step.BootStep.{BootStep}
use Rattle.thy_computer.specs.declared.boot_step.BootStep.TheVariants.{GoesOn, Loaded, Restarted, Refused}
use Rattle.thy_computer.specs.declared.view.View.{View}
use Rattle.thy_computer.specs.Action.{ActsBy, ActionFailedBy, doubt_after_fault}
use Rattle.thy_computer.specs.Booting.{boot_view, loading_view, boot_did}
use Rattle.thy_computer.specs.CoreStep.{BootsTo}
use Rattle.thy_computer.specs.Dram.{ActsOnDram}
use Rattle.thy_computer.specs.Origin.{Origin, at}
use Rattle.thy_computer.specs.Safe.{ceiling, Safe}
use Rattle.thy_scheme.specs.CheckpointMarks.{only}
use Rattle.thy_scheme.specs.Scheme.{SchemeOf}
use Rattle.thy_scheme.specs.Calls.{queued_in}

-- the view of a boot: a checkpoint was found, or the program is loaded, whose commit block was written or not
abbrev pub IsBootView : Origin → View → Type 0
IsBootView o v =
    ((m : Mark) × (v ≡ boot_view (Some m) None))
    ⊎ ((o.kept ≡ None) × ((v ≡ loading_view o.start.count) ⊎ (v ≡ record (loading_view o.start.count) { written = true })))

-- the boot is over: the checkpoint of a mark is the committed one, and memory is its
pub record IsBooted {S : Type 0} (K : SchemeOf S) (o : Origin) (m : Mark) (cpu : CpuState) (t : S) (new : Device) : Type 0 where
  pub sound : K.is_sound o (only m) t new
  pub state : state_from o.geometry cpu (K.holding t new).blocks ≡ at o m.count
  pub count : cpu.count ≡ m.count
  pub recordable : IsRecordable o.geometry ceiling cpu
  pub closed : (K.holding t new).open_page ≡ None
  pub whole : K.promoting t ≡ false
  pub storeless : K.storeless t ≡ true

-- the program was loaded, as the checkpoint of epoch 0
pub record Loads {S : Type 0} (K : SchemeOf S) (o : Origin) (s : S) (n : Device) (t : S) (new : Device) : Type 0 where
  pub fresh : o.kept ≡ None
  pub view : K.boot_view o s n ≡ record (loading_view o.start.count) { written = true }
  pub booted : IsBooted K o (mark 0 o.start.count) (cpu_of o.start) t new

-- the checkpoint that was found was restored
pub record Restarts {S : Type 0} (K : SchemeOf S) (o : Origin) (cpu : CpuState) (epoch : ℕ) (s : S) (n : Device) (t : S) (new : Device) : Type 0 where
  pub view : K.boot_view o s n ≡ boot_view (Some (mark epoch cpu.count)) None
  pub booted : IsBooted K o (mark epoch cpu.count) cpu t new

-- by the result of the step; no image of a run is refused
abbrev pub Answers : {S : Type 0} → SchemeOf S → Origin → BootStep → S → Device → S → Device → Type 0
Answers K o GoesOn s n t new = K.boots o t new × BootsTo (K.boot_view o s n) (K.boot_view o t new)
Answers K o Loaded s n t new = Loads K o s n t new
Answers K o (Restarted cpu epoch) s n t new = Restarts K o cpu epoch s n t new
Answers K o (Refused bad) s n t new = ⊥

-- a step of the boot, whose first one reads the commit block; if a checkpoint was found it leaves the NVM as it was, unless
-- the boot migrates
pub record BootsOn {S : Type 0} (K : SchemeOf S) (o : Origin) (step : BootStep) (s : S) (n : Device) (t : S) (new : Device) : Type 0 where
  pub answers : Answers K o step s n t new
  pub acts : ActsBy (K.migrates s) (boot_did step) n new
  pub dram : ActsOnDram n new (K.dram s) (K.dram t)
  pub queue : queued_in K t new ≤ queued_in K s n + 1
  pub nearer : K.boot_left t + 1 ≤ K.boot_left s
  pub read : K.has_read t ≡ true
  pub still : (m : Mark) → (K.boot_view o s n).done ≡ Some m → K.migrates s ≡ false → new ≡ n

-- a step of the boot failed in its action. It leaves what the boot found, whole, or what is loaded, if loading's commit block was written
-- before or this was its write. If a checkpoint was found it wrote nothing, unless the boot migrates
pub record BootFails {S : Type 0} (K : SchemeOf S) (o : Origin) (s : S) (n new : Device) : Type 0 where
  pub step : BootStep
  pub acted : ActionFailedBy (K.migrates s) (boot_did step) n new
  pub safe : Safe K.decode o (K.boot_view o s n).done (doubt_after_fault acted.action (K.boot_view o s n)) new
  pub still : (m : Mark) → (K.boot_view o s n).done ≡ Some m → K.migrates s ≡ false → HasFailed n new

-- the boot continues, and what it shows is as before
pub record BootStays {S : Type 0} (K : SchemeOf S) (o : Origin) (s : S) (n : Device) (t : S) (new : Device) : Type 0 where
  pub boots : K.boots o t new
  pub view : K.boot_view o t new ≡ K.boot_view o s n
  pub left : K.boot_left t ≡ K.boot_left s
  pub read : K.has_read t ≡ K.has_read s

-- one write of the DRAM lands during the boot
pub record BootDrains {S : Type 0} (K : SchemeOf S) (o : Origin) (s : S) (n : Device) (t : S) : Type 0 where
  pub stays : BootStays K o s n t n
  pub dram : K.dram t ≡ drained (K.dram s)
  pub queue : K.queued t + 1 ≡ K.queued s
