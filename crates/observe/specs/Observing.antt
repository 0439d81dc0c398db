-- What a call of the program does outside: what thynvm does for the same arguments, and then OUT.
use Rattle.std.specs.Prelude.{◌≡◌, ◌⊎◌, ℕ, ◌==◌, nat_lt, nat_le, Bool, true, false, ◌||◌, ◌&&◌, is_none, List, length, [], ◌++◌, Option, Some, None, Result, Ok, Err, MatchBool}
use Rattle.std.specs.Str.{bytes_eq}
use Rattle.thy_block.specs.declared.outside.PutError.{PutError}
use Rattle.thy_block.specs.Outside.{Stock, Stream}
use Rattle.thy_text.specs.declared.closing.Closing.TheVariants.{Memory as ClosingMemory}
use Rattle.thy_text.specs.Closings.{closing_of}
use Rattle.thy_text.specs.History.{all_of}
use Rattle.thy_base.specs.declared.arguments.words.WordsError.{WordsError}
use Rattle.thy_base.specs.declared.arguments.words.WordsError.TheVariants.{Usage, Memory}
use Rattle.thy_base.specs.declared.arguments.words.Command.{Command}
use Rattle.thy_base.specs.Settings.{Job, Order, run, resume, bench, compare, plain, make, IsInRange, order_of, settings_of}
use Rattle.thy_run.specs.Watching.{Taken}
use Rattle.thy_computer.specs.Origin.{setting_of}
use Rattle.thy_observe.specs.declared.watch.Watch.{Watch}
use Rattle.thy_observe.specs.Watched.{IsWatch, HasLast}
use Rattle.thy_outcome.specs.declared.answer.Answer.{Answer}
use Rattle.thy_outcome.specs.declared.refusal.Refusal.{Refusal}
use Rattle.thy_outcome.specs.declared.refusal.Refusal.TheVariants.{Words}
use Rattle.thy_outcome.specs.Answering.{Around, NvmOf, Outside, Closes, outside_of, put_line, report_of_refusal}
use Rattle.thy_outcome.specs.Machines.{Choice}
use Rattle.thy_outcome.specs.Saving.{IsPut}
use Rattle.thy_cli.specs.Watching.{ClaimSeen}
use Rattle.observe.specs.declared.options.Options.{Options}
use Rattle.observe.specs.Beginning.{IsProgramOf, IsUnreadBy, origin_of, run_in}
use Rattle.observe.specs.Sections.{IsText}
use Rattle.observe.specs.Wanting.{asks, counts, lacks_trace, needs_run}
use Rattle.observe.specs.CountText.{AreCountsOf, NvmCounts, wear_part}
use Rattle.observe.specs.HeadText.{IsHead, asked_by}

-- OUT is this name
abbrev pub is_name : List ℕ → Option (List ℕ) → Bool
is_name out None = false
is_name out (Some name) = bytes_eq name out

-- OUT is the name of a job's input or of what it saves
abbrev pub is_of_job : List ℕ → Job → Bool
is_of_job out job = is_name out job.input || is_name out job.save

-- OUT is the name of a file that an order reads or stores; or there is nothing to observe
abbrev pub is_taken : List ℕ → Order → Bool
is_taken out (run file job) = bytes_eq file out || is_of_job out job
is_taken out (resume image job) = bytes_eq image out || is_of_job out job
is_taken out (bench n job) = is_of_job out job
is_taken out (plain file job) = bytes_eq file out || is_of_job out job
is_taken out (compare file job) = true
is_taken out (make n name) = true

-- nothing is observed of an order over torn blocks if it runs no machine, nor if it has a gap: no line moves over an NVM whose
-- blocks may be torn
abbrev pub is_untearable : Order → Bool
is_untearable (run file job) = nat_lt 0 job.config.gap
is_untearable (resume image job) = nat_lt 0 job.config.gap
is_untearable (bench n job) = nat_lt 0 job.config.gap
is_untearable (plain file job) = true
is_untearable (compare file job) = true
is_untearable (make n name) = true

-- an order is refused because of OUT, because of a bound of a trace that is not asked for, because it runs no machine on which
-- an option could see something, or because of torn blocks
abbrev pub is_refused : Options → List ℕ → Order → Bool
is_refused options out order =
    ((is_taken out order || lacks_trace options) || (needs_run options && is_none (run_in order)))
    || (options.torn && is_untearable order)

abbrev pub is_refused_by : Options → List ℕ → Result Order WordsError → Bool
is_refused_by options out (Ok order) = is_refused options out order
is_refused_by options out (Err e) = false

-- the arguments ask for a command
pub record IsAskedFor (words : List (List ℕ)) (c : Command) : Type 0 where
  pub asked : settings_of words ≡ Ok (order_of c)
  pub in_range : IsInRange (order_of c)

-- the call is refused: a line says why, and all else is left alone
pub record IsTurnedDown (r : Refusal) (before after : Outside) (status : ℕ) : Type 0 where
  pub is_status : status ≡ (report_of_refusal r).0
  pub shelf : after.shelf ≡ before.shelf
  pub device : after.device ≡ before.device
  pub terminal : after.terminal ≡ before.terminal
  pub closes : Closes (report_of_refusal r).1 before.report after.report

-- why a call is refused: because of OUT or of an option; that memory ran out for the arguments needs no reason
abbrev pub IsRefusedFor : Options → List ℕ → List (List ℕ) → WordsError → Type 0
IsRefusedFor options out words Usage = is_refused_by options out (settings_of words) ≡ true
IsRefusedFor options out words (Memory e) = Unit {0}
IsRefusedFor options out words e = ⊥

abbrev pub IsTurned : Options → List ℕ → List (List ℕ) → Outside → Outside → ℕ → WordsError → Type 0
IsTurned options out words before after status e =
    IsRefusedFor options out words e × IsTurnedDown (Words e) before after status

-- The program of a run was to be read for an option, and could not be, or is refused: a line says why, as thynvm says it,
-- and what the shelf holds stays.
pub record IsUnread (options : Options) (words : List (List ℕ)) (before after : Outside) (status : ℕ) : Type 0 where
  pub wanted : asks options ≡ true
  pub order : Order
  pub asked : settings_of words ≡ Ok order
  pub why : Refusal
  pub due : IsUnreadBy order before.shelf after.shelf why
  pub is_status : status ≡ (report_of_refusal why).0
  pub held : after.shelf.held ≡ before.shelf.held
  pub device : after.device ≡ before.device
  pub terminal : after.terminal ≡ before.terminal
  pub closes : Closes (report_of_refusal why).1 before.report after.report

-- what is reported of OUT, and the exit status: if OUT was not put, a line says so, and the status is 3
abbrev pub ReportsOut : List ℕ → Option PutError → Stream → Stream → (answered status : ℕ) → Type 0
ReportsOut out None old new answered status = (new ≡ old) × (status ≡ answered)
ReportsOut out (Some e) old new answered status = Closes (put_line out) old new × (status ≡ 3)

-- a run was begun, by its answer; one that did nothing counts as none
abbrev pub was_begun : Answer → Bool
was_begun a = nat_lt 0 a.cycles || nat_lt 0 (length (all_of a.events)) || nat_le a.status 1 || a.status == 6 || a.status == 8

-- What is asked for in addition, of the cycles that were seen, which are the run's. The program was read for it before the run,
-- from what the shelf held then.
pub record HasTextOf (options : Options) (words : List (List ℕ)) (shelf : Stock) (w : Watch) (section : List ℕ) : Type 0 where
  pub order : Order
  pub asked : settings_of words ≡ Ok order
  pub program : IsProgramOf order shelf
  pub exact : (seen : List Taken) → IsWatch w seen
      → IsText options (setting_of (origin_of program)) (origin_of program).start seen section

-- the text has no further section if none is asked for
abbrev pub AreSections : Options → List (List ℕ) → Stock → Watch → List ℕ → Type 0
AreSections options words shelf w section =
    MatchBool (asks options) (HasTextOf options words shelf w section) (section ≡ [])

-- A run was begun, and a text was put under OUT, or was not; all else is left alone. The text begins with the lines of the run's
-- events, its trap and its totals, by the cycles that were seen and the calls that the NVM has counted; of the plain machine with the
-- trap. It ends with what is asked for in addition, with what is counted in these cycles, and with the writes of each place that the
-- NVM has counted.
pub record PutsOut {N : Type 0} (counted_by : N → NvmCounts) (options : Options) (out : List ℕ) (words : List (List ℕ))
    (before middle after : Around N) (a : Answer) (w : Watch) (status : ℕ) : Type 0 where
  pub begun : was_begun a ≡ true
  pub head : List ℕ
  pub is_head : IsHead (asked_by (settings_of words)) w.tally (counted_by middle.nvm).calls a.events.last head
  pub section : List ℕ
  pub sections : AreSections options words before.shelf w section
  pub counted : List ℕ
  pub counts : AreCountsOf options w counted
  pub why : Option PutError
  pub put : IsPut out (head ++ (section ++ (counted ++ wear_part options.wear (counted_by middle.nvm).wear))) middle.shelf after.shelf why
  pub nvm : after.nvm ≡ middle.nvm
  pub terminal : after.terminal ≡ middle.terminal
  pub is_reported : ReportsOut out why middle.report after.report a.status status

-- no run was begun, and nothing was put
abbrev pub LeavesOut : {N : Type 0} → Around N → Around N → Answer → ℕ → Type 0
LeavesOut middle after a status = (was_begun a ≡ false) × (after ≡ middle) × (status ≡ a.status)

-- what is reported if there is no text, and the exit status: if something was to be counted, that memory ran out
abbrev pub IsLacking : Options → Stream → Stream → (answered status : ℕ) → Type 0
IsLacking options old new answered status =
    MatchBool (counts options) (Closes (closing_of ClosingMemory) old new × (status ≡ 9)) ((new ≡ old) × (status ≡ answered))

-- a run was begun, and memory ran out for what was seen or its text: nothing was put
pub record LacksOut {N : Type 0} (options : Options) (middle after : Around N) (a : Answer) (status : ℕ) : Type 0 where
  pub begun : was_begun a ≡ true
  pub shelf : after.shelf ≡ middle.shelf
  pub nvm : after.nvm ≡ middle.nvm
  pub terminal : after.terminal ≡ middle.terminal
  pub is_reported : IsLacking options middle.report after.report a.status status

-- OUT is no name that the arguments have. They were answered as thynvm answers them, and what was seen is the run's
-- cycles, or the trap of the plain machine. Then OUT was put, or nothing was.
pub record IsObserved {N : Type 0} (c : Choice) (d : NvmOf N) (counted_by : N → NvmCounts) (options : Options) (out : List ℕ) (words : List (List ℕ))
    (before after : Around N) (status : ℕ) : Type 0 where
  pub free : is_refused_by options out (settings_of words) ≡ false
  pub middle : Around N
  pub answer : Answer
  pub watch : Watch
  pub claim : ClaimSeen c d IsWatch HasLast words before middle answer watch
  pub ends : LeavesOut middle after answer status
      ⊎ LacksOut options middle after answer status
      ⊎ PutsOut counted_by options out words before middle after answer watch status

-- what a call does, with OUT, these options and these arguments
abbrev pub Observed : {N : Type 0} → Choice → NvmOf N → (N → NvmCounts) → Options → List ℕ → List (List ℕ) → Around N → Around N → ℕ → Type 0
Observed c d counted_by options out words before after status =
    ((e : WordsError) × IsTurned options out words (outside_of d before) (outside_of d after) status e)
    ⊎ IsUnread options words (outside_of d before) (outside_of d after) status
    ⊎ IsObserved c d counted_by options out words before after status
