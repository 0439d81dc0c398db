-- What of the console is released to the terminal at the end of a cycle, and which cycles have nothing to report.
use Rattle.std.specs.Prelude.{◌≡◌, ◌<◌, ◌⊎◌, ℕ, Bool, true, false, ◌&&◌, ◌==◌, nat_lt, if◌then◌else◌, List, [], length, drop, slice_index, Option, Some, None}
use Rattle.thy_text.specs.Event.{Event}
use Rattle.thy_block.specs.declared.mark.Mark.{Mark}
use Rattle.thy_computer.specs.declared.did.Advance.{Advance}
use Rattle.thy_computer.specs.declared.did.Did.{Did}
use Rattle.thy_computer.specs.declared.did.Did.TheVariants.{Loaded, Restarted, Sealed, Committed}
use Rattle.thy_computer.specs.declared.did.Stepped.{Stepped}
use Rattle.thy_computer.specs.declared.view.View.{View}
use Rattle.thy_computer.specs.Advances.{stepped_of}
use Rattle.thy_computer.specs.Origin.{Origin, at}
use Rattle.thy_run.specs.Laws.{released_of}
use Rattle.thy_run.specs.declared.progress.Progress.{Progress}

-- what was done makes the console of another checkpoint known
abbrev pub shows_console : Did → Bool
shows_console Loaded = true
shows_console (Restarted epoch count) = true
shows_console (Committed epoch overlapped) = true
shows_console did = false

-- a step has an event that needs what is read of the machine: a checkpoint's console is made known, or the run ended
abbrev pub IsReported : Stepped → Type 0
IsReported r = (shows_console r.did ≡ true) ⊎ (r.ended ≡ true)

-- the console of the uninterrupted program at each count
abbrev pub console_at : Origin → ℕ → List ℕ
console_at o k = (at o k).console

-- the console of a mark
abbrev pub console_shown : Origin → Option Mark → List ℕ
console_shown o None = []
console_shown o (Some m) = console_at o m.count

-- the bytes of the console that the terminal has not taken yet, along a run's turns
abbrev pub due_of : Origin → List Event → Did → View → List ℕ
due_of o events did next =
    if shows_console did then drop (length (released_of o events)) (console_shown o next.done) else []

-- ---- quiet cycles

-- what was done has an event of its own
abbrev pub is_reported : Did → Bool
is_reported Loaded = true
is_reported (Restarted epoch count) = true
is_reported (Sealed epoch count cause) = true
is_reported (Committed epoch overlapped) = true
is_reported did = false

-- a step has no event, and no cut falls after it
pub record IsQuiet {M : Type 0} (cuts : List ℕ) (p : Progress M) (r : Stepped) (cycle : ℕ) : Type 0 where
  pub unlisted : is_reported r.did ≡ false
  pub going : r.ended ≡ false
  pub later : p.fresh ≡ false
  pub uncut : (nat_lt p.passed (length cuts) && slice_index cuts p.passed == cycle) ≡ false

-- each cycle below this one in which a hart advances is quiet
abbrev pub AreQuietBelow : {M : Type 0} → List ℕ → Progress M → ℕ → Type 0
AreQuietBelow cuts p below = (a : Advance) (cycle : ℕ) → cycle < below → IsQuiet cuts p (stepped_of a) cycle
