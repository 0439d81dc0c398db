-- The end of a boot: the state from which the scheme above continues.
use Rattle.std.specs.Prelude.{◌≡◌, true, List, [], Some, None}
use Rattle.thy_block.specs.declared.block.Block.{Block}
use Rattle.thy_block.specs.declared.mark.Mark.{Mark}
use Rattle.thy_layout.specs.declared.layout_version.LayoutVersion.{LayoutVersion}
use Rattle.thy_layout.specs.declared.layout_version.LayoutVersion.TheVariants.{VersionTwo}
use Rattle.thy_block.specs.Device.{Device, newest}
use Rattle.thy_block.specs.Places.{header_place}
use Rattle.thy_layout.specs.Saved.{Kept}
use Rattle.thy_isa.specs.declared.state.CpuState.{CpuState}
use Rattle.thy_isa.specs.OnBlocks.{state_from}
use Rattle.thy_isa.specs.Step.{cpu_of}
use Rattle.thy_layout.specs.Commit.{epoch_of, version_of}
use Rattle.thy_layout.specs.Cpu.{cpu_of_record, IsRecordable}
use Rattle.thy_layout.specs.Header.{header_fault}
use Rattle.thy_record.specs.Number.{scheme_number}
use Rattle.thy_record.specs.Images.{slot_in}
use Rattle.thy_record.specs.Issuing.{HoldsCheckpoint}
use Rattle.thy_record.specs.Slots.{counts_in}
use Rattle.thy_control.specs.Boot.{IsBooting}
use Rattle.thy_control.specs.CheckpointTables.{tables0}
use Rattle.thy_control.specs.State.{State}
use Rattle.thy_control.specs.Stays.{HoldAll}
use Rattle.thy_computer.specs.Origin.{Origin, IsOrigin, at}
use Rattle.thy_computer.specs.Safe.{ceiling}
use Rattle.thy_computer.specs.Keeps.{Keeps}
use Rattle.thy_record.specs.ThynvmLayouts.{layout_of}
use Rattle.thy_checkpoint.specs.declared.boot_stage.Stage.TheVariants.{Over}
use Rattle.thy_checkpoint.specs.declared.boot_stage.End.TheVariants.{Restored, Loaded}
use Rattle.thy_checkpoint.specs.Boot.{Booting, slot_read}
use Rattle.thy_checkpoint.specs.Sound.{BootImages, start_mark, IsSoundBoot}
use Rattle.thy_checkpoint.specs.Start.{start_blocks}
use Rattle.thy_thynvm_parts.specs.Filling.{loads, filling_thynvm}
use Rattle.thy_thynvm_parts.specs.Start.{no_tables}

-- over a device the controller has the state of a mark: memory as it loads it and this processor make it, and the next
-- checkpoint's record can hold the processor
pub record LoadsState (o : Origin) (m : Mark) (cpu : CpuState) (n : Device) (c : State) : Type 0 where
  pub booting : IsBooting c
  pub header : header_fault scheme_number (newest n header_place) o.geometry true ≡ None
  pub holds : HoldAll c n
  pub state : state_from o.geometry cpu (loads c n) ≡ at o m.count
  pub counted : (at o m.count).count ≡ m.count
  pub recordable : IsRecordable o.geometry ceiling cpu

-- A boot that is over: the image of a mark is kept, in a version, and the controller has its tables and counts, and the
-- state of the mark.
pub record IsBooted (o : Origin) (m : Mark) (cpu : CpuState) (version : LayoutVersion) (image : List Block) (n : Device) (c : State) : Type 0 where
  pub settled : n.queue ≡ []
  pub meant : HoldsCheckpoint o.geometry image version m.epoch (tables0 c)
  pub lasts : counts_in version o.geometry (slot_in o.geometry image) ≡ c.counts.lasts
  pub has : LoadsState o m cpu n c

-- a restart has the kept mark's state, and its checkpoint is kept, in the version that its commit block names
abbrev pub RestoredIsBooted : Type 0
RestoredIsBooted =
    (o : Origin) (g : BootImages) (n : Device) (b : Booting) (c : State)
    → IsOrigin o → IsSoundBoot filling_thynvm o g n b c → b.stage ≡ Over Restored
    → (m : Mark) × (g.kept ≡ Some m) × (m.epoch ≡ epoch_of b.commit) × Keeps o (layout_of o) n (Kept g.before) (Some m) None
    × IsBooted o m (cpu_of_record b.p (slot_read filling_thynvm b)) (version_of scheme_number b.p b.commit) g.before n c

-- after loading these are the start's, with tables that list nothing
pub record IsStarted (o : Origin) (g : BootImages) (n : Device) (c : State) : Type 0 where
  pub over : IsBooted o (start_mark o) (cpu_of o.start) VersionTwo g.next n c
  pub tables : tables0 c ≡ no_tables o.geometry
  pub memory : loads c n ≡ start_blocks o.geometry o.start
  pub start : state_from o.geometry (cpu_of o.start) (loads c n) ≡ o.start

abbrev pub LoadedIsStarted : Type 0
LoadedIsStarted =
    (o : Origin) (g : BootImages) (n : Device) (b : Booting) (c : State)
    → IsOrigin o → IsSoundBoot filling_thynvm o g n b c → b.stage ≡ Over Loaded → IsStarted o g n c
