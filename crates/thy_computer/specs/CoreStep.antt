-- Part of the claim.
-- How a cycle changes the view.
use Rattle.std.specs.Prelude.{◌≡◌, ◌⊎◌, ℕ, ◌+◌, ◌<◌, ◌≤◌, ◌==◌, true, false, if◌then◌else◌, Option, Some, None}
use Rattle.thy_block.specs.declared.cause.EndCause.{EndCause}
use Rattle.thy_block.specs.declared.cause.EndCause.TheVariants.{Length, Exhausted, Ended}
use Rattle.thy_block.specs.declared.mark.Mark.{Mark}
use Rattle.thy_computer.specs.declared.view.Phase.{Phase}
use Rattle.thy_computer.specs.declared.view.Phase.TheVariants.{Boot as BootPhase, Run, Halt}
use Rattle.thy_computer.specs.declared.view.View.{View}
use Rattle.thy_computer.specs.declared.did.Did.{Did}
use Rattle.thy_computer.specs.declared.did.Did.TheVariants.{Boot, Loaded, Restarted, Refused, Moved, Retired, Sealed, Engine, Committed, NvmDrained, DramDrained, Nothing}
use Rattle.thy_layout.specs.declared.engine_step.EngineStep.{EngineStep}
use Rattle.thy_layout.specs.declared.engine_step.EngineStep.TheVariants.{Idle, CommitWritten, Committed as EngineCommitted}
use Rattle.thy_computer.specs.Origin.{Origin, runs_at, turn_at}
use Rattle.thy_block.specs.Marks.{mark}

-- the phase after a checkpoint of this count: the program's end is the machine's
abbrev pub phase_at : Origin → ℕ → Phase
phase_at o count = if runs_at o count then Run else Halt

-- the view after one more cycle of hart or engine
abbrev pub busier : View → View
busier v = record v { spent = v.spent + 1 }

-- why an epoch is over, if it is, once it has retired `retired` instructions and the program `now`
abbrev pub over_at : Origin → ℕ → ℕ → Option EndCause
over_at o retired now =
    if runs_at o now then (if retired == o.geometry.epoch then Some Length else None) else Some Ended

-- an instruction needs more table entries than are free
pub record IsShort (free dirty need : ℕ) : Type 0 where
  pub short : free < dirty + need
  pub some : 1 ≤ need
  pub most : need ≤ 2

-- a hart that moves on leaves over as it is, or the epoch is exhausted
abbrev pub MovesTo : View → View → Type 0
MovesTo v next =
    (next ≡ busier v)
    ⊎ ((free : ℕ) × (dirty : ℕ) × (need : ℕ) × IsShort free dirty need × (next ≡ record (busier v) { over = Some (Exhausted free dirty need) }))

-- a boot goes on: nothing changes, or loading's commit block was written
abbrev pub BootsTo : View → View → Type 0
BootsTo v next = (next ≡ v) ⊎ ((v.done ≡ None) × (next ≡ record v { written = true }))

-- the engine goes on; with a checkpoint under way it is never idle, and writes the commit block once
abbrev pub EngineTo : EngineStep → View → View → Type 0
EngineTo Idle v next = ⊥
EngineTo CommitWritten v next = (v.written ≡ false) × ((m : Mark) × (v.sealed ≡ Some m)) × (next ≡ record (busier v) { written = true })
EngineTo (EngineCommitted epoch) v next = ⊥
EngineTo step v next = next ≡ busier v

-- the program is loaded: its start is committed, as epoch 0
pub record Loads (o : Origin) (v next : View) : Type 0 where
  pub phase : v.phase ≡ BootPhase
  pub none : v.done ≡ None
  pub written : v.written ≡ true
  pub sealed : v.sealed ≡ Some (mark 0 o.start.count)
  pub becomes : next ≡ record v { phase = Run; done = v.sealed; sealed = None; epoch = 1; count = o.start.count; written = false }

-- the committed checkpoint is restored
pub record Restores (o : Origin) (epoch count : ℕ) (v next : View) : Type 0 where
  pub phase : v.phase ≡ BootPhase
  pub done : v.done ≡ Some (mark epoch count)
  pub unsealed : v.sealed ≡ None
  pub unwritten : v.written ≡ false
  pub becomes : next ≡ record v { phase = phase_at o count; epoch = epoch + 1; count = count; retired = 0; spent = 0; lap = 0 }

-- an instruction is retired, by the hart whose turn it is
pub record Retires (o : Origin) (hart : ℕ) (v next : View) : Type 0 where
  pub turn : turn_at o v.count ≡ hart
  pub phase : v.phase ≡ Run
  pub over : v.over ≡ None
  pub runs : runs_at o v.count ≡ true
  pub becomes : next ≡ record (busier v) {
    count = v.count + 1;
    retired = v.retired + 1;
    lap = v.lap + 1;
    over = over_at o (v.retired + 1) (v.count + 1);
  }

-- an epoch that is over is sealed
pub record Seals (epoch count : ℕ) (cause : EndCause) (v next : View) : Type 0 where
  pub phase : v.phase ≡ Run
  pub unsealed : v.sealed ≡ None
  pub of_epoch : epoch ≡ v.epoch
  pub at_count : count ≡ v.count
  pub over : v.over ≡ Some cause
  pub becomes : next ≡ record v { sealed = Some (mark epoch count); epoch = v.epoch + 1; retired = 0; spent = 0; lap = 0; over = None }

-- the sealed epoch is committed, as its commit block was written
pub record Commits (o : Origin) (epoch overlapped : ℕ) (v next : View) : Type 0 where
  pub phase : v.phase ≡ Run
  pub written : v.written ≡ true
  pub laps : overlapped ≡ v.lap
  pub count : ℕ
  pub sealed : v.sealed ≡ Some (mark epoch count)
  pub becomes : next ≡ record (busier v) { phase = phase_at o count; done = v.sealed; sealed = None; written = false }

-- what each kind of cycle makes of the view; a line flushed, entries merged and a block promoted count as one cycle more
abbrev pub CoreStep : Origin → View → Did → View → Type 0
CoreStep o v Boot next = (v.phase ≡ BootPhase) × BootsTo v next
CoreStep o v Loaded next = Loads o v next
CoreStep o v (Restarted epoch count) next = Restores o epoch count v next
CoreStep o v (Refused bad) next = (v.phase ≡ BootPhase) × (v.done ≡ None) × (v.sealed ≡ None) × (next ≡ v)
CoreStep o v Moved next = (v.phase ≡ Run) × (v.over ≡ None) × (runs_at o v.count ≡ true) × MovesTo v next
CoreStep o v (Retired hart) next = Retires o hart v next
CoreStep o v (Sealed epoch count cause) next = Seals epoch count cause v next
CoreStep o v (Engine step) next = (v.phase ≡ Run) × EngineTo step v next
CoreStep o v (Committed epoch overlapped) next = Commits o epoch overlapped v next
CoreStep o v NvmDrained next = next ≡ v
CoreStep o v DramDrained next = next ≡ v
CoreStep o v Nothing next = (v.phase ≡ Halt) × (next ≡ v)
CoreStep o v did next = (v.phase ≡ Run) × (next ≡ busier v)
