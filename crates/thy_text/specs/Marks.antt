-- Part of the claim.
-- The checkpoints that events report, and the events that may come after others.
use Rattle.std.specs.Prelude.{◌≡◌, ◌≢◌, ◌⊎◌, ℕ, ◌+◌, ◌-◌, ◌<◌, ◌≤◌, ◌==◌, ◌&&◌, Bool, true, false, if◌then◌else◌, List, [], ◌∷◌, ◌++◌, length, Option, Some, None}
use Rattle.thy_block.specs.declared.cause.EndCause.{EndCause}
use Rattle.thy_block.specs.declared.cause.EndCause.TheVariants.{Length, Exhausted, Ended as EndedCause}
use Rattle.thy_block.specs.Marks.{mark}
use Rattle.thy_block.specs.declared.mark.Mark.{Mark}
use Rattle.thy_isa.specs.Step.{State, is_running}
use Rattle.thy_text.specs.Event.{Event, Scheme, EpochEnd, Commit, Cut, Restart, Reload, Ended}

-- the checkpoint that is committed, and the one that is sealed and may be; and the harts that retired the instructions
-- up to each, if they are listed
pub record Marks : Type 0 where
  pub kept : Option Mark
  pub sealed : Option Mark
  pub kept_turns : List ℕ
  pub sealed_turns : List ℕ

-- while the file is loaded: nothing is committed, and the start is sealed as epoch 0
abbrev pub loading_marks : ℕ → Marks
loading_marks start = record { kept = None; sealed = Some (mark 0 start); kept_turns = []; sealed_turns = [] }

-- a checkpoint has this epoch and this count
abbrev pub is_mark : Option Mark → ℕ → ℕ → Bool
is_mark None epoch count = false
is_mark (Some m) epoch count = m.epoch == epoch && m.count == count

-- the turns up to a checkpoint, which is one of these two
abbrev pub turns_of : Marks → ℕ → ℕ → List ℕ
turns_of m epoch count = if is_mark m.sealed epoch count then m.sealed_turns else m.kept_turns

-- what an event makes of the marks; `start` is the count at which the run starts
abbrev pub marks_after : ℕ → Marks → Event → Marks
marks_after start m (EpochEnd epoch count cause turns) =
    record m { sealed = Some (mark epoch count); sealed_turns = m.kept_turns ++ turns }
marks_after start m (Commit epoch cycle overlapped) =
    record { kept = m.sealed; sealed = None; kept_turns = m.sealed_turns; sealed_turns = [] }
marks_after start m (Restart epoch count state) =
    record { kept = Some (mark epoch count); sealed = None; kept_turns = turns_of m epoch count; sealed_turns = [] }
marks_after start m Reload = loading_marks start
marks_after start m (Scheme number) = loading_marks start
marks_after start m event = m

-- what events make of the marks
abbrev pub marks_from : ℕ → Marks → List Event → Marks
marks_from start m [] = m
marks_from start m (v ∷ vs) = marks_from start (marks_after start m v) vs

-- What events are compared with: the plain machine's state at each count, to which turns lead, the count at which the
-- run starts, the instructions of an epoch, and how many harts there are.
pub record Course : Type 0 where
  pub at : ℕ → List ℕ → State
  pub start : ℕ
  pub epoch : ℕ
  pub harts : ℕ

-- how many turns an event lists for this many instructions: with one hart none
abbrev pub turns_listed : ℕ → ℕ → ℕ
turns_listed harts instructions = if harts == 1 then 0 else instructions

-- the cause of an epoch's end at a count to which these turns lead, if the epoch began after `last` instructions
abbrev pub FitsCause : Course → ℕ → ℕ → List ℕ → EndCause → Type 0
FitsCause c last count turns EndedCause = is_running (c.at count turns).status ≡ false
FitsCause c last count turns Length = (is_running (c.at count turns).status ≡ true) × (count ≡ last + c.epoch)
FitsCause c last count turns (Exhausted free dirty need) =
    (is_running (c.at count turns).status ≡ true) × (count ≢ last + c.epoch) × (free < dirty + need) × (1 ≤ need) × (need ≤ 2)

-- an epoch ends: nothing else is sealed, it follows the committed one, and the turns of its instructions are listed
pub record EndsEpoch (c : Course) (m : Marks) (epoch count : ℕ) (cause : EndCause) (turns : List ℕ) : Type 0 where
  pub before : ℕ
  pub last : ℕ
  pub follows : epoch ≡ before + 1
  pub kept : m.kept ≡ Some (mark before last)
  pub alone : m.sealed ≡ None
  pub from : last ≤ count
  pub to : count ≤ last + c.epoch
  pub each : length turns ≡ turns_listed c.harts (count - last)
  pub fits : FitsCause c last count (m.kept_turns ++ turns) cause

-- a run goes on from one of the two checkpoints, with the plain machine's state
pub record Restarts (c : Course) (m : Marks) (epoch count : ℕ) (state : State) : Type 0 where
  pub marked : (m.kept ≡ Some (mark epoch count)) ⊎ (m.sealed ≡ Some (mark epoch count))
  pub whole : state ≡ c.at count (turns_of m epoch count)

-- the program ended: the committed checkpoint has the plain machine's last state
pub record EndsRun (c : Course) (m : Marks) (count : ℕ) (state : State) : Type 0 where
  pub epoch : ℕ
  pub kept : m.kept ≡ Some (mark epoch count)
  pub whole : state ≡ c.at count m.kept_turns
  pub over : is_running state.status ≡ false

-- an event may come if the events before it left these marks
abbrev pub Lawful : Course → Marks → Event → Type 0
Lawful c m (EpochEnd epoch count cause turns) = EndsEpoch c m epoch count cause turns
Lawful c m (Commit epoch cycle overlapped) = (count : ℕ) × (m.sealed ≡ Some (mark epoch count))
Lawful c m (Cut index cycle) = Unit {0}
Lawful c m (Restart epoch count state) = Restarts c m epoch count state
Lawful c m Reload = m.kept ≡ None
Lawful c m (Scheme number) = Unit {0}
Lawful c m (Ended status count cycle state) = EndsRun c m count state × (status ≡ state.status)

-- each event is lawful after those before it
abbrev pub AllLawful : Course → Marks → List Event → Type 0
AllLawful c m [] = Unit {0}
AllLawful c m (v ∷ vs) = Lawful c m v × AllLawful c (marks_after c.start m v) vs
