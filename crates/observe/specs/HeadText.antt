-- What every text begins with: a line for each event of the run, its trap, and the totals; of the plain machine the trap alone.
use Rattle.std.specs.Prelude.{◌≡◌, ℕ, ◌-◌, ◌==◌, if◌then◌else◌, true, false, List, [], ◌∷◌, ◌++◌, length, slice_get, get_or, Option, Some, None, Result, Ok, Err, MatchBool, codes}
use Rattle.std.specs.Fmt.{decimal, digits}
use Rattle.thy_isa.specs.Step.{State}
use Rattle.thy_run.specs.Watching.{Taken}
use Rattle.thy_text.specs.declared.reporting.Reporting.{Reporting}
use Rattle.thy_text.specs.Event.{Event, EpochEnd, Ended}
use Rattle.thy_base.specs.declared.arguments.words.WordsError.{WordsError}
use Rattle.thy_base.specs.Settings.{Job, Order, run, resume, bench, plain}
use Rattle.thy_observe.specs.declared.counting.Calls.{Calls}
use Rattle.thy_observe.specs.declared.tally.Tally.{Tally}
use Rattle.thy_observe.specs.declared.trap.Trap.{Trap}
use Rattle.thy_observe.specs.Tallied.{IsTally}
use Rattle.thy_observe.specs.Trapping.{HasTrap, trap_of}
use Rattle.observe.specs.declared.head.Asked.{Asked}
use Rattle.observe.specs.EventText.{events_of, lines_of, losses_of, no_losses}
use Rattle.observe.specs.TotalsText.{totals_of, totals_text}

-- ---- the trap

-- a number in hexadecimal digits, if there is one
abbrev pub hex_part : Option ℕ → List ℕ
hex_part None = []
hex_part (Some n) = codes " " ++ digits 16 false n

-- the part of a trap's line that names the hart, if there are two
abbrev pub hart_part : (harts hart : ℕ) → List ℕ
hart_part harts hart = if harts == 2 then codes " hart " ++ decimal hart else []

abbrev pub pc_part : ℕ → List ℕ
pc_part pc = codes "trap " ++ digits 16 false pc

-- the line of a trap: the program counter, the word there, the address that was accessed, and the hart
abbrev pub trap_text : (harts : ℕ) → Option Trap → List ℕ
trap_text harts None = []
trap_text harts (Some t) =
    pc_part t.pc ++ (hex_part t.word ++ (hex_part t.address ++ (hart_part harts t.hart ++ codes "\n")))

-- the last turn that an epoch's end lists, if it lists any
abbrev pub turn_after : Option ℕ → Event → Option ℕ
turn_after before (EpochEnd epoch count cause turns) = if length turns == 0 then before else Some (get_or turns (length turns - 1) 0)
turn_after before event = before

-- the last turn that these events list, or the one from before if they list none
abbrev pub last_turn : Option ℕ → List Event → Option ℕ
last_turn before [] = before
last_turn before (e ∷ es) = last_turn (turn_after before e) es

-- the hart that retired the last instruction; none if there are two harts, and no epoch's end lists one
abbrev pub last_hart : (harts : ℕ) → List Event → Option ℕ
last_hart harts events = if harts == 1 then Some 0 else last_turn None events

abbrev pub trap_at : Option Event → (base : ℕ) → Option ℕ → Option Trap
trap_at (Some (Ended status count cycle state)) base (Some hart) = trap_of base hart state
trap_at event base hart = None

-- the trap by which a run ended, if it did, and if it is known which hart trapped
abbrev pub trap_in : List Event → (base harts : ℕ) → Option Trap
trap_in events base harts = trap_at (slice_get events (length events - 1)) base (last_hart harts events)

-- ---- all of it

-- what the text's head needs to know of a job
abbrev pub asked_for : Job → Asked
asked_for job = record { base = job.config.base; harts = job.config.harts; plain = false }

-- nothing is known of an order that is not observed
abbrev pub no_order : Asked
no_order = record { base = 0; harts = 1; plain = false }

abbrev pub asked_of : Order → Asked
asked_of (run name job) = asked_for job
asked_of (resume name job) = asked_for job
asked_of (bench n job) = asked_for job
asked_of (plain name job) = record { base = job.config.base; harts = job.config.harts; plain = true }
asked_of order = no_order

-- what is known of an order, or nothing if there is none
abbrev pub asked_in : Option Order → Asked
asked_in None = no_order
asked_in (Some order) = asked_of order

-- what is known of the order that the arguments ask for, if they ask for one
abbrev pub asked_by : Result Order WordsError → Asked
asked_by (Ok order) = asked_of order
asked_by (Err e) = no_order

-- events are reported without digests, for this number of harts
abbrev pub reporting_of : (harts : ℕ) → Reporting
reporting_of harts = record { digest = false; harts = harts }

-- the text of a run with these cycles and these events, over a device that has counted these calls
abbrev pub run_text : Asked → List Taken → Calls → List Event → List ℕ
run_text asked seen calls events =
    lines_of (reporting_of asked.harts) (events_of seen events)
    ++ (trap_text asked.harts (trap_in events asked.base asked.harts)
    ++ totals_text asked.harts (totals_of seen) calls (losses_of no_losses (events_of seen events)).lost events)

-- a text is the head of a run whose cycles a tally has
abbrev pub IsRunText : Asked → Tally → Calls → List Event → List ℕ → Type 0
IsRunText asked t calls events text = (seen : List Taken) → IsTally t seen → text ≡ run_text asked seen calls events

-- a text is the line of the plain machine's trap, which a tally has
abbrev pub IsPlainText : Tally → List ℕ → Type 0
IsPlainText t text = (base : ℕ) (last : State) → HasTrap t base last → text ≡ trap_text 1 (trap_of base 0 last)

-- what a text begins with
abbrev pub IsHead : Asked → Tally → Calls → List Event → List ℕ → Type 0
IsHead asked t calls events head = MatchBool asked.plain (IsPlainText t head) (IsRunText asked t calls events head)
