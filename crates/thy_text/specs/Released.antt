-- Part of the claim.
-- What the terminal has of the console. In a run that resumes an image this begins with the whole console of its checkpoint.
use Rattle.std.specs.Prelude.{ℕ, Bool, true, false, if◌then◌else◌, List, [], Option, Some, None}
use Rattle.std.specs.List.{list_any}
use Rattle.thy_text.specs.Event.{Event, Commit, Restart}
use Rattle.thy_block.specs.declared.mark.Mark.{Mark}
use Rattle.thy_text.specs.Marks.{Marks, marks_from}

-- an event after which a committed state is known
abbrev pub shows : Event → Bool
shows (Commit epoch cycle overlapped) = true
shows (Restart epoch count state) = true
shows event = false

-- the console at a mark, to which these turns lead
abbrev pub console_of : (ℕ → List ℕ → List ℕ) → Option Mark → List ℕ → List ℕ
console_of console_at None turns = []
console_of console_at (Some m) turns = console_at m.count turns

-- the console at the committed mark
abbrev pub console_kept : (ℕ → List ℕ → List ℕ) → Marks → List ℕ
console_kept console_at m = console_of console_at m.kept m.kept_turns

-- the console of the committed state, once an event has reported one
abbrev pub released : (ℕ → List ℕ → List ℕ) → ℕ → Marks → List Event → List ℕ
released console_at start m vs =
    if list_any shows vs then console_kept console_at (marks_from start m vs) else []
