-- A run's checkpoints on the NVM, by the stage of the engine.
use Rattle.std.specs.Prelude.{◌≡◌, ℕ, ◌<◌, Bool, true, false, List, Option, Some}
use Rattle.thy_block.specs.declared.block.Block.{Block}
use Rattle.thy_block.specs.declared.mark.Mark.{Mark}
use Rattle.thy_block.specs.Device.{Device, block_at}
use Rattle.thy_block.specs.Places.{commit_place}
use Rattle.thy_layout.specs.Saved.{Saved, Kept}
use Rattle.thy_isa.specs.OnBlocks.{state_from}
use Rattle.thy_layout.specs.Commit.{commit_of}
use Rattle.thy_layout.specs.Cpu.{IsRecordable}
use Rattle.thy_computer.specs.Origin.{Origin, at}
use Rattle.thy_computer.specs.Safe.{ceiling}
use Rattle.thy_computer.specs.Issuing.{AreIssued}
use Rattle.thy_computer.specs.Moves.{Standing, standing}
use Rattle.thy_checkpoint.specs.declared.engine_stage.EngineStage.{EngineStage}
use Rattle.thy_checkpoint.specs.declared.engine_stage.EngineStage.TheVariants.{Idle, Body, InRound, Tail}
use Rattle.thy_computer.specs.declared.round.Round.TheVariants.{Commit, Confirm}
use Rattle.thy_computer.specs.Round.{is_written}
use Rattle.thy_computer.specs.Rounds.{saved_in, saved_after_fault, AreIssuedBefore}
use Rattle.thy_checkpoint.specs.Progress.{Progress, layout_of}
use Rattle.thy_scheme_parts.specs.Design.{DesignOf}
use Rattle.thy_scheme_parts.specs.Moments.{parts_at}

-- the image that is kept and its mark, and the one that is made and the mark that is sealed, if one is
pub record Checkpoints : Type 0 where
  pub before : List Block
  pub kept : Option Mark
  pub next : List Block
  pub sealed : Option Mark

-- a checkpoint is being made; the first barrier is done: all but its commit block is written; and that was written
abbrev pub is_sealing : EngineStage → Bool
is_sealing Idle = false
is_sealing (Tail from) = false
is_sealing stage = true

abbrev pub is_settled : EngineStage → Bool
is_settled (InRound Commit) = true
is_settled (InRound Confirm) = true
is_settled stage = false

abbrev pub is_confirming : EngineStage → Bool
is_confirming (InRound r) = is_written r
is_confirming stage = false

-- the images that a cut may leave: but for the round one is kept
abbrev pub saved_at : EngineStage → Checkpoints → Saved
saved_at (InRound r) g = saved_in r g.before g.next
saved_at stage g = Kept g.before

abbrev pub standing_at : EngineStage → Device → Checkpoints → Standing
standing_at stage n g = standing n (saved_at stage g) g.kept g.sealed

-- the images that a cut may leave after an item that failed
abbrev pub saved_failed : EngineStage → Checkpoints → Saved
saved_failed (InRound r) g = saved_after_fault r g.before g.next
saved_failed stage g = Kept g.before

-- the checkpoint that is made is the sealed mark's
pub record IsMadeFor {C : Type 0} (D : DesignOf C) (o : Origin) (e : Progress) (c : C) (n : Device) (g : Checkpoints) : Type 0 where
  pub mark : Mark
  pub sealed : g.sealed ≡ Some mark
  pub of_epoch : mark.epoch ≡ e.epoch
  pub small : e.epoch < ceiling
  pub recordable : IsRecordable o.geometry ceiling e.cpu
  pub state_is : state_from o.geometry e.cpu (D.parts.sealed c n) ≡ at o mark.count
  pub counted : (at o mark.count).count ≡ mark.count
  pub commit : is_settled e.stage ≡ true → block_at g.next commit_place ≡ commit_of e.epoch
  pub makes : is_settled e.stage ≡ true → D.parts.makes e.epoch c g.next

-- ---- what is written before an item

-- the first k blocks of the slot are read, and at memory's places memory as it was sealed
abbrev pub HasWrittenSlot : {C : Type 0} → DesignOf C → Progress → C → Device → ℕ → Type 0
HasWrittenSlot D e c n k = AreIssued (layout_of D.filling e).image_blocks (parts_at D e c) n (D.parts.sealed c n) k

abbrev pub HasWrittenBefore : {C : Type 0} → DesignOf C → EngineStage → Progress → C → Device → Type 0
HasWrittenBefore D Idle e c n = Unit {0}
HasWrittenBefore D (Body from) e c n = Unit {0}
HasWrittenBefore D (InRound r) e c n =
    AreIssuedBefore (layout_of D.filling e).image_blocks (parts_at D e c) (commit_of e.epoch) r n (D.parts.sealed c n)
HasWrittenBefore D (Tail from) e c n = Unit {0}
