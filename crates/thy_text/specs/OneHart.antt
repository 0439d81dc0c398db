-- With one hart no turn is listed: which events may come after others, by counts alone.
use Rattle.std.specs.Prelude.{◌≡◌, ◌≢◌, ◌⊎◌, ◌↔◌, ℕ, ◌+◌, ◌<◌, ◌≤◌, true, false, List, [], ◌∷◌, Some, None}
use Rattle.thy_block.specs.declared.cause.EndCause.{EndCause}
use Rattle.thy_block.specs.declared.cause.EndCause.TheVariants.{Length, Exhausted, Ended as EndedCause}
use Rattle.thy_block.specs.Marks.{mark}
use Rattle.thy_isa.specs.Step.{State, is_running}
use Rattle.thy_text.specs.Event.{Event, Scheme, EpochEnd, Commit, Cut, Restart, Reload, Ended}
use Rattle.thy_text.specs.Marks.{Marks, Course, marks_after, AllLawful}

-- what events are compared with: the plain machine's state at each count, the count at which the run starts, and the
-- instructions of an epoch
pub record Counts : Type 0 where
  pub at : ℕ → State
  pub start : ℕ
  pub epoch : ℕ

-- the cause of an epoch's end at a count, if the epoch began after `last` instructions
abbrev pub FitsCount : Counts → ℕ → ℕ → EndCause → Type 0
FitsCount c last count EndedCause = is_running (c.at count).status ≡ false
FitsCount c last count Length = (is_running (c.at count).status ≡ true) × (count ≡ last + c.epoch)
FitsCount c last count (Exhausted free dirty need) =
    (is_running (c.at count).status ≡ true) × (count ≢ last + c.epoch) × (free < dirty + need) × (1 ≤ need) × (need ≤ 2)

-- an epoch ends: nothing else is sealed, and it follows the committed one
pub record EndsAt (c : Counts) (m : Marks) (epoch count : ℕ) (cause : EndCause) (turns : List ℕ) : Type 0 where
  pub before : ℕ
  pub last : ℕ
  pub follows : epoch ≡ before + 1
  pub kept : m.kept ≡ Some (mark before last)
  pub alone : m.sealed ≡ None
  pub from : last ≤ count
  pub to : count ≤ last + c.epoch
  pub unlisted : turns ≡ []
  pub fits : FitsCount c last count cause

-- a run goes on from one of the two checkpoints, with the plain machine's state
pub record RestartsAt (c : Counts) (m : Marks) (epoch count : ℕ) (state : State) : Type 0 where
  pub marked : (m.kept ≡ Some (mark epoch count)) ⊎ (m.sealed ≡ Some (mark epoch count))
  pub whole : state ≡ c.at count

-- the program ended: the committed checkpoint has the plain machine's last state
pub record EndsRunAt (c : Counts) (m : Marks) (count : ℕ) (state : State) : Type 0 where
  pub epoch : ℕ
  pub kept : m.kept ≡ Some (mark epoch count)
  pub whole : state ≡ c.at count
  pub over : is_running state.status ≡ false

-- an event may come if the events before it left these marks
abbrev pub LawfulAt : Counts → Marks → Event → Type 0
LawfulAt c m (EpochEnd epoch count cause turns) = EndsAt c m epoch count cause turns
LawfulAt c m (Commit epoch cycle overlapped) = (count : ℕ) × (m.sealed ≡ Some (mark epoch count))
LawfulAt c m (Cut index cycle) = Unit {0}
LawfulAt c m (Restart epoch count state) = RestartsAt c m epoch count state
LawfulAt c m Reload = m.kept ≡ None
LawfulAt c m (Scheme number) = Unit {0}
LawfulAt c m (Ended status count cycle state) = EndsRunAt c m count state × (status ≡ state.status)

-- each event is lawful after those before it
abbrev pub AllLawfulAt : Counts → Marks → List Event → Type 0
AllLawfulAt c m [] = Unit {0}
AllLawfulAt c m (v ∷ vs) = LawfulAt c m v × AllLawfulAt c (marks_after c.start m v) vs

-- no turn is listed for either checkpoint
pub record HasNoTurns (m : Marks) : Type 0 where
  pub kept : m.kept_turns ≡ []
  pub sealed : m.sealed_turns ≡ []

-- the course of events if no turn is listed
abbrev pub counts_of : Course → Counts
counts_of c = record { at = λ k. c.at k []; start = c.start; epoch = c.epoch }

-- with one hart events are lawful exactly if they are by counts alone
abbrev pub OneHartGoesByCounts : Type 0
OneHartGoesByCounts =
    (c : Course) (m : Marks) (events : List Event) → c.harts ≡ 1 → HasNoTurns m
    → (AllLawful c m events ↔ AllLawfulAt (counts_of c) m events)
