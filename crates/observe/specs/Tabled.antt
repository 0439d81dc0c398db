-- What a call does outside with a name for a table of accesses: the table is made and put, and then the call is the one
-- without it.
use Rattle.std.specs.Prelude.{◌≡◌, ◌⊎◌, ℕ, nat_lt, Bool, true, false, ◌||◌, List, length, Option, Some, None, Ok, MatchBool}
use Rattle.std.specs.Str.{bytes_eq}
use Rattle.thy_block.specs.declared.outside.PutError.{PutError}
use Rattle.thy_block.specs.Outside.{Stock, Stream}
use Rattle.thy_base.specs.declared.arguments.words.WordsError.{WordsError}
use Rattle.thy_base.specs.declared.arguments.words.WordsError.TheVariants.{Usage}
use Rattle.thy_base.specs.Settings.{Job, Order, run, resume, bench, compare, plain, make, settings_of}
use Rattle.thy_outcome.specs.declared.refusal.Refusal.TheVariants.{Words}
use Rattle.thy_outcome.specs.Answering.{Around, NvmOf, WordsDue, around, outside_of}
use Rattle.thy_outcome.specs.Machines.{Choice}
use Rattle.thy_outcome.specs.Saving.{IsPut}
use Rattle.thy_outcome.specs.Sources.{ProgramSource}
use Rattle.thy_observe.specs.declared.accesses.Accessed.{Accessed}
use Rattle.observe.specs.declared.options.Options.{Options}
use Rattle.observe.specs.AccessText.{cycles_of, has_cycle, table_text}
use Rattle.observe.specs.Again.{AreAccessesOf, IsShort, IsUnmade}
use Rattle.observe.specs.Beginning.{run_in}
use Rattle.observe.specs.CountText.{NvmCounts}
use Rattle.observe.specs.Observing.{IsTurnedDown, Observed, ReportsOut, is_refused, is_taken}

-- ---- what is refused

-- a job's run has cuts of power, or goes over a device that levels wear
abbrev pub is_uneven : Job → Bool
is_uneven job = nat_lt 0 (length job.config.cuts) || nat_lt 0 job.config.gap

-- an order has no accesses that can be listed: its run is such, or it does not run the machine once
abbrev pub is_unlisted : Order → Bool
is_unlisted (run file job) = is_uneven job
is_unlisted (resume image job) = is_uneven job
is_unlisted (bench n job) = is_uneven job
is_unlisted (compare file job) = true
is_unlisted (plain file job) = true
is_unlisted (make n name) = true

-- an order is refused because of the table: its name is OUT or one that the order has, or there are no accesses
abbrev pub is_untabled : (out name : List ℕ) → Order → Bool
is_untabled out name order = (bytes_eq name out || is_taken name order) || is_unlisted order

-- an order is refused because of the table, or because of OUT or of an option
abbrev pub is_turned : Options → (out name : List ℕ) → Order → Bool
is_turned options out name order = is_refused options out order || is_untabled out name order

-- ---- what is done

-- there is no table, and nothing else is done: the program of the run could not be read, or memory ran out, and a line says so
pub record LacksTable {N : Type 0} (order : Order) (before after : Around N) (status : ℕ) : Type 0 where
  pub source : ProgramSource
  pub job : Job
  pub runs : run_in order ≡ Some (source, job)
  pub why : IsUnmade source job before.shelf after.shelf before.report after.report status
      ⊎ IsShort before.shelf after.shelf before.report after.report status
  pub nvm : after.nvm ≡ before.nvm
  pub terminal : after.terminal ≡ before.terminal

-- The table of the accesses in the window that is asked for was put, or was not, and then the call was answered as without
-- it. If it was not put, one more line says so, and the status is 3.
pub record PutsTable {N : Type 0} (c : Choice) (d : NvmOf N) (counted_by : N → NvmCounts) (options : Options) (out name : List ℕ) (words : List (List ℕ))
    (order : Order) (before after : Around N) (status : ℕ) : Type 0 where
  pub source : ProgramSource
  pub job : Job
  pub runs : run_in order ≡ Some (source, job)
  pub rows : List Accessed
  pub listed : AreAccessesOf (c job.config.scheme).kind source job before.shelf (cycles_of options) rows
  pub shelf : Stock
  pub why : Option PutError
  pub put : IsPut name (table_text rows) before.shelf shelf why
  pub report : Stream
  pub answered : ℕ
  pub observed : Observed c d counted_by options out words (around shelf before.nvm before.terminal before.report)
      (around after.shelf after.nvm after.terminal report) answered
  pub is_reported : ReportsOut name why report after.report answered status

-- ---- a call

-- what a call does outside with a name for the table, if the arguments ask for an order
abbrev pub TablesOrder : {N : Type 0} → Choice → NvmOf N → (N → NvmCounts) → Options → (out name : List ℕ) → List (List ℕ) → Order
    → Around N → Around N → ℕ → Type 0
TablesOrder c d counted_by options out name words order before after status =
    ((is_turned options out name order ≡ true) × IsTurnedDown (Words Usage) (outside_of d before) (outside_of d after) status)
    ⊎ ((is_turned options out name order ≡ false)
    × (LacksTable order before after status ⊎ PutsTable c d counted_by options out name words order before after status))

-- what a call does outside with a name for the table; arguments that ask for no order are answered as without it
abbrev pub Tabled : {N : Type 0} → Choice → NvmOf N → (N → NvmCounts) → Options → (out name : List ℕ) → List (List ℕ)
    → Around N → Around N → ℕ → Type 0
Tabled c d counted_by options out name words before after status =
    ((e : WordsError) × WordsDue words e × Observed c d counted_by options out words before after status)
    ⊎ ((order : Order) × (settings_of words ≡ Ok order) × TablesOrder c d counted_by options out name words order before after status)

-- what a call does outside without a name for the table: then a bound of its window is refused
abbrev pub Unnamed : {N : Type 0} → Choice → NvmOf N → (N → NvmCounts) → Options → List ℕ → List (List ℕ) → Around N → Around N → ℕ → Type 0
Unnamed c d counted_by options out words before after status =
    MatchBool (has_cycle options) (IsTurnedDown (Words Usage) (outside_of d before) (outside_of d after) status)
    (Observed c d counted_by options out words before after status)

-- what a call does outside, with or without a name for the table
abbrev pub ObservedBeside : {N : Type 0} → Choice → NvmOf N → (N → NvmCounts) → Options → List ℕ → Option (List ℕ) → List (List ℕ)
    → Around N → Around N → ℕ → Type 0
ObservedBeside c d counted_by options out None words before after status = Unnamed c d counted_by options out words before after status
ObservedBeside c d counted_by options out (Some name) words before after status = Tabled c d counted_by options out name words before after status
