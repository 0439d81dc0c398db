-- Part of the claim.
-- What is left of an instruction, of copies and of promotions, and what each cycle completes of it. A hart that says that it
-- moves, and stands still while a checkpoint is under way, is refused, but for the few moves that each instruction may have.
use Rattle.std.specs.Prelude.{◌≡◌, ◌⊎◌, ℕ, ◌+◌, ◌≤◌, Bool, true, false}
use Rattle.thy_block.specs.Device.{Device}
use Rattle.thy_dram.specs.Contents.{Contents}
use Rattle.thy_computer.specs.declared.did.Did.{Did}
use Rattle.thy_computer.specs.declared.did.Did.TheVariants.{Loaded, Restarted, Moved, Retired, Merged, Sealed, Promoted, Engine, Committed}
use Rattle.thy_layout.specs.declared.engine_step.EngineStep.TheVariants.{Copied, PageBlock, StateBlock, TableBlock}
use Rattle.thy_computer.specs.Dram.{WritesBlock}
use Rattle.thy_computer.specs.Pace.{Gauge}

-- a cycle that did this begins an instruction: more moves may be left than before
abbrev pub begins_instruction : Did → Bool
begins_instruction Loaded = true
begins_instruction (Restarted epoch count) = true
begins_instruction (Retired hart) = true
begins_instruction (Sealed epoch count cause) = true
begins_instruction did = false

-- a cycle that did this begins an epoch: more copies may be owed and more blocks be promoted than before
abbrev pub begins_epoch : Did → Bool
begins_epoch Loaded = true
begins_epoch (Restarted epoch count) = true
begins_epoch (Sealed epoch count cause) = true
begins_epoch did = false

-- a cycle that did this may raise the copies that are owed; after a commit only by those that it was to add
abbrev pub adds_copies : Did → Bool
adds_copies (Committed epoch overlapped) = true
adds_copies did = begins_epoch did

-- a hart that moved has fewer moves left, or it made a copy that comes before its store
abbrev pub MovesOn : Gauge → Gauge → Type 0 → Type 0
MovesOn old new Wrote = (new.moves + 1 ≤ old.moves) ⊎ ((new.moves ≡ old.moves) × (new.owed + 1 ≤ old.owed) × Wrote)

-- what a cycle that did this completed; the last argument says that it wrote a block
abbrev pub GetsDone : Did → Gauge → Gauge → Type 0 → Type 0
GetsDone Moved old new Wrote = MovesOn old new Wrote
GetsDone Promoted old new Wrote = (new.promotions + 1 ≤ old.promotions) × Wrote
GetsDone Merged old new Wrote = Wrote
GetsDone (Engine Copied) old new Wrote = Wrote
GetsDone (Engine PageBlock) old new Wrote = Wrote
GetsDone (Engine StateBlock) old new Wrote = Wrote
GetsDone (Engine TableBlock) old new Wrote = Wrote
GetsDone did old new Wrote = Unit {0}

-- no more is left than before, unless something begins
pub record LeavesNoMore (did : Did) (old new : Gauge) : Type 0 where
  pub moves : begins_instruction did ≡ false → new.moves ≤ old.moves
  pub owed : adds_copies did ≡ false → new.owed ≤ old.owed
  pub owed_in_all : begins_epoch did ≡ false → new.owed + new.owed_later ≤ old.owed + old.owed_later
  pub promotions : begins_epoch did ≡ false → new.promotions ≤ old.promotions

-- a cycle did what it reports, and left no more to do than before
pub record Works (did : Did) (old new : Gauge) (n next : Device) (dram now : Contents) : Type 0 where
  pub done : GetsDone did old new (WritesBlock n next dram now)
  pub left : LeavesNoMore did old new

-- what is left at every moment is bounded
pub record IsWithin (most_owed most_promotions : ℕ) (g : Gauge) : Type 0 where
  pub moves : g.moves ≤ 16
  pub owed : g.owed + g.owed_later ≤ most_owed
  pub promotions : g.promotions ≤ most_promotions
