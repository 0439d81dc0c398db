-- After the boot: controller, engine and NVM have the checkpoints of a run.
use Rattle.std.specs.Prelude.{◌≡◌, true, is_some, length, Some, None}
use Rattle.thy_block.specs.declared.mark.Mark.{Mark}
use Rattle.thy_block.specs.Device.{Device, block_at, newest}
use Rattle.thy_block.specs.Places.{header_place, commit_place}
use Rattle.thy_isa.specs.declared.state.CpuState.{CpuState}
use Rattle.thy_isa.specs.OnBlocks.{state_from}
use Rattle.thy_layout.specs.Commit.{commit_of}
use Rattle.thy_layout.specs.Layout.{Layout, header_bad}
use Rattle.thy_computer.specs.Origin.{Origin, at}
use Rattle.thy_computer.specs.Moves.{IsKeeping}
use Rattle.thy_scheme.specs.CheckpointMarks.{CheckpointMarks}
use Rattle.thy_checkpoint.specs.Filling.{layout_at}
use Rattle.thy_checkpoint.specs.Progress.{Progress, Fits, phase_of}
use Rattle.thy_scheme_parts.specs.Checkpoints.{Checkpoints, is_sealing, is_confirming, standing_at, IsMadeFor, HasWrittenBefore}
use Rattle.thy_scheme_parts.specs.Design.{DesignOf, Composed}
use Rattle.thy_scheme_parts.specs.Moments.{IsMoment}

-- the layout of a run's images
abbrev pub layout_for : {C : Type 0} → DesignOf C → Origin → Layout
layout_for D o = layout_at D.filling o.geometry

-- controller and engine belong together and are of the run's geometry, and the NVM is as the engine's stage asks
pub record IsHeld {C : Type 0} (D : DesignOf C) (o : Origin) (e : Progress) (c : C) (n : Device) : Type 0 where
  pub geometry : D.filling.p c ≡ o.geometry
  pub moment : IsMoment D (phase_of e.stage) e.epoch c n
  pub fits : Fits D.filling D.items e c
  pub regs : length e.cpu.regs ≡ 32
  pub room : (D.filling.dram c).room ≡ o.geometry.dramq

-- memory as the committed checkpoint has it, and some processor, make the state of a mark
pub record HasState {C : Type 0} (D : DesignOf C) (o : Origin) (m : Mark) (e : Progress) (c : C) (n : Device) : Type 0 where
  pub cpu : CpuState
  pub state : state_from o.geometry cpu (D.parts.committed (phase_of e.stage) c n) ≡ at o m.count

-- the checkpoints on the NVM have these marks, and the kept one has the commit block that is written for its epoch
pub record HasCheckpoints {C : Type 0} (D : DesignOf C) (o : Origin) (k : CheckpointMarks) (e : Progress) (c : C) (n : Device)
    (g : Checkpoints) : Type 0 where
  pub kept : g.kept ≡ Some k.done
  pub stated : block_at g.before commit_place ≡ commit_of k.done.epoch
  pub sealed : g.sealed ≡ k.sealed
  pub keeping : IsKeeping o (layout_for D o) (standing_at e.stage n g)
  pub meant : D.parts.keeps (phase_of e.stage) e.epoch c g.before
  pub written : HasWrittenBefore D e.stage e c n
  pub made : is_sealing e.stage ≡ true → IsMadeFor D o e c n g

pub record IsSound {C : Type 0} (D : DesignOf C) (o : Origin) (k : CheckpointMarks) (s : Composed C) (n : Device) : Type 0 where
  pub held : IsHeld D o s.engine s.control n
  pub images : Checkpoints
  pub checkpoints : HasCheckpoints D o k s.engine s.control n images
  -- a mark is sealed exactly while its checkpoint is made
  pub way : is_sealing s.engine.stage ≡ is_some k.sealed
  pub doubt : k.written ≡ is_confirming s.engine.stage
  pub header : header_bad (layout_for D o) (newest n header_place) true ≡ None
  pub committed : HasState D o k.done s.engine s.control n
  pub rests : D.parts.rests s.storeless s.sealed_storeless (phase_of s.engine.stage) s.control
