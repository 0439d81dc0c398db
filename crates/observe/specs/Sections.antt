-- What is added to the text that is put under OUT, if it is asked for.
use Rattle.std.specs.Prelude.{◌≡◌, ℕ, Bool, List, [], ◌∷◌, ◌++◌, codes, false, if◌then◌else◌, Option, Some, None, MatchBool}
use Rattle.std.specs.Fmt.{decimal, digits}
use Rattle.std.specs.List.{flat_map}
use Rattle.std.specs.List.Sorted.{IsStrictlySortedBy}
use Rattle.std.specs.Map.{keys_of}
use Rattle.std.specs.Ordering.{nat_cmp}
use Rattle.thy_block.specs.Bytes.{bytes_of}
use Rattle.thy_isa.specs.OnBlocks.{setting_for}
use Rattle.thy_isa.specs.Step.{State, Setting, state_of}
use Rattle.thy_run.specs.Watching.{Taken}
use Rattle.thy_observe.specs.declared.changes.Changes.{Changes}
use Rattle.thy_observe.specs.Changes.{AreChanges, changes_of}
use Rattle.thy_observe.specs.Replaying.{AreCounts, executed}
use Rattle.thy_observe.specs.States.{state_at, state_by}
use Rattle.thy_observe.specs.Tracing.{trace_of}
use Rattle.thy_observe.specs.declared.tracing.Window.{Window}
use Rattle.observe.specs.declared.beginning.Begun.{Begun}
use Rattle.observe.specs.declared.options.Options.{Options}
use Rattle.observe.specs.StateText.{state_section}
use Rattle.observe.specs.TraceText.{trace_text}
use Rattle.observe.specs.Wanting.{asks, window_of}

-- ---- how often each program counter retired

-- the line of a program counter: its address in hexadecimal digits, and how often it retired
abbrev pub pcs_row : ℕ × ℕ → List ℕ
pcs_row e = digits 16 false e.0 ++ (codes " " ++ (decimal e.1 ++ codes "\n"))

-- a line for each program counter, or for none
abbrev pub pcs_rows : List (ℕ × ℕ) → List ℕ
pcs_rows [] = codes "none\n"
pcs_rows (e ∷ table) = flat_map pcs_row (e ∷ table)

-- the section of the program counters: a head line, and their lines
abbrev pub pcs_text : List (ℕ × ℕ) → List ℕ
pcs_text table = codes "pcs\n" ++ pcs_rows table

-- The text lists the program counters that retired in the cycles of a run from this start: what the plain machine executes
-- by the turns of these cycles, each instruction as often as it was executed. The program counters of the table rise.
pub record IsPcsText (g : Setting) (start : State) (seen : List Taken) (text : List ℕ) : Type 0 where
  pub table : List (ℕ × ℕ)
  pub rising : IsStrictlySortedBy nat_cmp (keys_of table)
  pub counts : AreCounts table (executed g start (changes_of seen)).pcs
  pub is_text : text ≡ pcs_text table

-- ---- a state

-- the section of the state after a cycle, if that is asked for
abbrev pub state_part : Option ℕ → Setting → State → List Taken → List ℕ
state_part None g start seen = []
state_part (Some cycle) g start seen = state_section (codes "state") cycle g.base (state_by g start cycle seen)

-- the section of the state at a count, if that is asked for
abbrev pub state_at_part : Option ℕ → Setting → State → List Taken → List ℕ
state_at_part None g start seen = []
state_at_part (Some count) g start seen = state_section (codes "state-at") count g.base (state_at g start count seen)

-- ---- the instructions

-- the section of the instructions in a window, if they are asked for
abbrev pub trace_part : Bool → Window → Setting → State → List Taken → List ℕ
trace_part asked w g start seen = if asked then trace_text (trace_of g start w seen) else []

-- ---- all that is asked for

-- The text has what is asked for of the cycles of a run from this start, each after the other.
pub record IsText (options : Options) (g : Setting) (start : State) (seen : List Taken) (text : List ℕ) : Type 0 where
  pub pcs : List ℕ
  pub splits : text
      ≡ pcs ++ (state_part options.state g start seen
      ++ (state_at_part options.state_at g start seen ++ trace_part options.trace (window_of options) g start seen))
  pub has_pcs : MatchBool options.pcs (IsPcsText g start seen pcs) (pcs ≡ [])

-- the setting of a run that was begun, with the numbers as the program has them
abbrev pub setting_by : Begun → Setting
setting_by b = setting_for b.geometry (bytes_of b.start.input)

abbrev pub start_by : Begun → State
start_by b = state_of b.start.state

-- a text goes on with a section of this kind
abbrev pub GoesOn : (List ℕ → Type 0) → List ℕ → List ℕ → Type 0
GoesOn Is head whole = (section : List ℕ) × (whole ≡ head ++ section) × Is section

-- the parts of the text that belong to what a run's changes list
abbrev pub IsPcsPart : Bool → Begun → Changes → List ℕ → Type 0
IsPcsPart asked b changes part =
    (seen : List Taken) → AreChanges changes seen → MatchBool asked (IsPcsText (setting_by b) (start_by b) seen part) (part ≡ [])

abbrev pub IsStatePart : Option ℕ → Begun → Changes → List ℕ → Type 0
IsStatePart asked b changes part =
    (seen : List Taken) → AreChanges changes seen → part ≡ state_part asked (setting_by b) (start_by b) seen

abbrev pub IsStateAtPart : Option ℕ → Begun → Changes → List ℕ → Type 0
IsStateAtPart asked b changes part =
    (seen : List Taken) → AreChanges changes seen → part ≡ state_at_part asked (setting_by b) (start_by b) seen

abbrev pub IsTracePart : Bool → Window → Begun → Changes → List ℕ → Type 0
IsTracePart asked w b changes part =
    (seen : List Taken) → AreChanges changes seen → part ≡ trace_part asked w (setting_by b) (start_by b) seen

-- the text has all parts that the options ask for, of the cycles whose changes are listed
abbrev pub IsTextOf : Options → Begun → Changes → List ℕ → Type 0
IsTextOf options b changes text =
    (seen : List Taken) → AreChanges changes seen → IsText options (setting_by b) (start_by b) seen text

-- what follows the head of a text is what is asked for
pub record HasText (options : Options) (begun : Option Begun) (changes : Changes) (head whole : List ℕ) : Type 0 where
  pub b : Begun
  pub is_begun : begun ≡ Some b
  pub goes_on : GoesOn (IsTextOf options b changes) head whole

-- the text of a call: its head, and after it a section if the options ask for one
abbrev pub HasSections : Options → Option Begun → Changes → List ℕ → List ℕ → Type 0
HasSections options begun changes head whole =
    MatchBool (asks options) (HasText options begun changes head whole) (whole ≡ head)
