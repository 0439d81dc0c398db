-- Part of the claim.
-- The checkpoints of a machine whose boot is over.
use Rattle.std.specs.Prelude.{true, false, if◌then◌else◌, Bool, Option, None, unwrap_or}
use Rattle.thy_block.specs.declared.mark.Mark.{Mark}
use Rattle.thy_layout.specs.declared.engine_step.EngineStep.{EngineStep}
use Rattle.thy_layout.specs.declared.engine_step.EngineStep.TheVariants.{CommitWritten, Committed}

pub record CheckpointMarks : Type 0 where
  -- the committed checkpoint
  pub done : Mark
  -- the checkpoint that is sealed and not yet committed
  pub sealed : Option Mark
  -- the sealed checkpoint's commit block was written, and no barrier has come since
  pub written : Bool

-- the marks with this one committed, and none sealed
abbrev pub only : Mark → CheckpointMarks
only m = record { done = m; sealed = None; written = false }

-- the mark that a cut may leave instead of the one done
abbrev pub doubt_in : CheckpointMarks → Option Mark
doubt_in k = if k.written then k.sealed else None

-- the marks after a step of the engine
abbrev pub marks_after : EngineStep → CheckpointMarks → CheckpointMarks
marks_after CommitWritten k = record k { written = true }
marks_after (Committed epoch) k = only (unwrap_or k.sealed k.done)
marks_after step k = k

-- the marks after a step of the engine that failed: what a cut may leave is as if the commit block's write was made
abbrev pub marks_after_fault : EngineStep → CheckpointMarks → CheckpointMarks
marks_after_fault CommitWritten k = record k { written = true }
marks_after_fault step k = k
