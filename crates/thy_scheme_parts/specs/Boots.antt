-- Part of the claim.
-- The boot of a run, and a scheme whose power has just come on.
use Rattle.std.specs.Prelude.{◌≡◌, true, false, if◌then◌else◌, length}
use Rattle.thy_block.specs.declared.parameters.Parameters.{Parameters}
use Rattle.thy_block.specs.Device.{Device}
use Rattle.thy_dram.specs.Contents.{Contents}
use Rattle.thy_computer.specs.Kind.{IsDramOf}
use Rattle.thy_computer.specs.Origin.{Origin, IsOrigin}
use Rattle.thy_checkpoint.specs.declared.boot_stage.Stage.{Stage}
use Rattle.thy_checkpoint.specs.declared.boot_stage.Stage.TheVariants.{Reads, Over}
use Rattle.thy_checkpoint.specs.declared.boot_stage.ReadStage.TheVariants.{Unread}
use Rattle.thy_checkpoint.specs.declared.boot_stage.End.TheVariants.{Restored}
use Rattle.thy_checkpoint.specs.Boot.{Booting, IsBoot, new_boot}
use Rattle.thy_checkpoint.specs.Laws.{IsGoing}
use Rattle.thy_checkpoint.specs.Sound.{BootImages, IsSoundBoot}
use Rattle.thy_checkpoint.specs.Progress.{Progress, applying, is_under_way, new_engine}
use Rattle.thy_scheme_parts.specs.Design.{DesignOf, Composed}

-- a scheme is of a geometry, whatever failed: its tables are sound, and its DRAM has that size
pub record IsOf {C : Type 0} (D : DesignOf C) (p : Parameters) (s : Composed C) : Type 0 where
  pub same_p : D.filling.p s.control ≡ p
  pub sound : D.parts.sound s.control
  pub room : (D.filling.dram s.control).room ≡ p.dramq

-- power has just come on: nothing was read, no checkpoint is under way, and no block was stored
pub record IsPowered {C : Type 0} (D : DesignOf C) (p : Parameters) (s : Composed C) : Type 0 where
  pub dram : Contents
  pub is_dram : IsDramOf p dram
  pub control : s.control ≡ D.parts.powered p dram
  pub engine : s.engine ≡ new_engine p
  pub boot : s.boot ≡ new_boot D.filling p
  pub storeless : s.storeless ≡ true
  pub sealed_storeless : s.sealed_storeless ≡ false

-- controller and engine are of the run's geometry, and nothing was sealed yet
pub record IsUnused {C : Type 0} (D : DesignOf C) (o : Origin) (s : Composed C) : Type 0 where
  pub sound : D.parts.sound s.control
  pub control : D.filling.p s.control ≡ o.geometry
  pub engine : s.engine.p ≡ o.geometry
  pub regs : length s.engine.cpu.regs ≡ 32
  pub idle : is_under_way s.engine.stage ≡ false
  pub room : (D.filling.dram s.control).room ≡ o.geometry.dramq
  pub sealed_storeless : s.sealed_storeless ≡ false

-- a boot of a run that is not over, of a scheme in which nothing was sealed or stored; before it has read, nothing is queued in
-- the DRAM
pub record Boots {C : Type 0} (D : DesignOf C) (o : Origin) (s : Composed C) (n : Device) : Type 0 where
  pub origin : IsOrigin o
  pub images : BootImages
  pub sound : IsSoundBoot D.filling o images n s.boot s.control
  pub going : IsGoing s.boot.stage
  pub boot : IsBoot D.filling s.boot
  pub unused : IsUnused D o s
  pub unread : s.boot.stage ≡ Reads Unread → (D.filling.dram s.control).queued ≡ 0
  pub storeless : s.storeless ≡ true

-- the engine after a boot that is over: with a checkpoint restored it begins with what follows the commit, if something does
abbrev pub engine_at : {C : Type 0} → DesignOf C → Stage → Progress → Progress
engine_at D (Over Restored) e = if D.items.has_tail then applying e else e
engine_at D stage e = e

-- the scheme after a step of the boot
abbrev pub booted : {C : Type 0} → DesignOf C → Booting → C → Composed C → Composed C
booted D boot control s = record s { control = control; engine = engine_at D boot.stage s.engine; boot = boot }
