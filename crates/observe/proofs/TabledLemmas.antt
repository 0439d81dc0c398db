-- A call with a table of accesses.
use Rattle.std.proofs.Common.{◌≡◌, ℕ, Bool, true, false, ◌||◌, nat_lt, Option, Some, None, List, length, Ok, Err, refl, sym, subst, inr, arith}
use Rattle.std.specs.Prelude.{MatchBool, Result, Vec}
use Rattle.std.specs.declared.alloc.Global.{Global}
use Rattle.std.specs.Str.{bytes_eq}
use Rattle.std.proofs.lemmas.Bool.{or_parts}
use Rattle.std.proofs.lemmas.Bool.Decides.{nat_tests}
use Rattle.std.proofs.lemmas.List.{nil_from_length}
use Rattle.thy_block.specs.declared.outside.PutError.{PutError}
use Rattle.thy_block.specs.Outside.{Stock, Stream}
use Rattle.thy_text.specs.declared.closing.Closing.TheVariants.{Memory as ClosingMemory}
use Rattle.thy_text.specs.Closings.{closing_of}
use Rattle.thy_base.specs.declared.arguments.words.WordsError.{WordsError}
use Rattle.thy_base.specs.declared.arguments.words.WordsError.TheVariants.{Usage, Word, Value, Memory}
use Rattle.thy_base.specs.Settings.{Job, Order, run, resume, bench, compare, plain, make, ShowsOrMemory, order_of, settings_of}
use Rattle.thy_outcome.specs.declared.refusal.Refusal.TheVariants.{Words}
use Rattle.thy_outcome.specs.Answering.{Around, NvmOf, Closes, WordsDue, around, outside_of}
use Rattle.thy_outcome.specs.Machines.{Choice}
use Rattle.thy_outcome.specs.Saving.{IsPut}
use Rattle.thy_observe.specs.declared.accesses.Accessed.{Accessed}
use Rattle.thy_observe.specs.declared.tracing.Window.{Window}
use Rattle.observe.specs.declared.options.Options.{Options}
use Rattle.observe.specs.AccessText.{cycles_of, has_cycle, table_text}
use Rattle.observe.specs.Again.{IsShort, IsUncut, IsUncutJob, MakesRowsOf}
use Rattle.observe.specs.CountText.{NvmCounts}
use Rattle.observe.specs.Observing.{IsTurnedDown, Observed, ReportsOut, is_refused, is_taken}
use Rattle.observe.specs.Tabled.{LacksTable, ObservedBeside, PutsTable, Tabled, Unnamed, is_turned, is_uneven, is_unlisted, is_untabled}

-- ---- what is not refused

none_of : (k : ℕ) → nat_lt 0 k ≡ false → k ≡ 0
none_of k e = grind (arith, nat_tests)

even_job : (job : Job) → is_uneven job ≡ false → IsUncutJob job
even_job job e =
    nil_from_length job.config.cuts
    (none_of (length job.config.cuts) (or_parts (nat_lt 0 (length job.config.cuts)) (nat_lt 0 job.config.gap) e).0)

listed_order : (o : Order) → is_unlisted o ≡ false → IsUncut o
listed_order (run file job) e = even_job job e
listed_order (resume image job) e = even_job job e
listed_order (bench n job) e = even_job job e
listed_order (compare file job) e = absurd (cc)
listed_order (plain file job) e = absurd (cc)
listed_order (make n name) e = absurd (cc)

pub uncut_of : (options : Options) (out name : List ℕ) (o : Order) → is_turned options out name o ≡ false → IsUncut o
uncut_of options out name o e =
    let tabled : is_untabled out name o ≡ false = (or_parts (is_refused options out o) (is_untabled out name o) e).1 in
    listed_order o (or_parts (bytes_eq name out || is_taken name o) (is_unlisted o) tabled).1

pub words_due : (words : List (List ℕ)) (e : WordsError) → ShowsOrMemory order_of (settings_of words) (Err e) → WordsDue words e
words_due words Usage h = h
words_due words (Word field) h = h
words_due words (Value field value) h = h
words_due words (Memory e) h = tt

-- ---- calls

-- a call without a table, as its run could not be made
pub LacksTable-made : {N : Type 0} (c : Choice) (order : Order) (w : Window) (old new : Stock) (nvm : N) (terminal before after : Stream) (status : ℕ)
    (result : Result (Vec Accessed Global) ℕ) → result ≡ Err status → MakesRowsOf c order w old new before after result
    → LacksTable order (around old nvm terminal before) (around new nvm terminal after) status
LacksTable-made c order w old new nvm terminal before after status (Ok rows) is h = absurd (cc)
LacksTable-made c order w old new nvm terminal before after status (Err s) is h =
    let same : s ≡ status = cc in
    subst (λ (k : ℕ). LacksTable order (around old nvm terminal before) (around new nvm terminal after) k) same
    (record { source = h.source; job = h.job; runs = h.runs; why = h.makes; nvm = refl; terminal = refl })

-- or as memory ran out for its text
pub LacksTable-text : {N : Type 0} (c : Choice) (order : Order) (w : Window) (old new : Stock) (nvm : N) (terminal before middle after : Stream) (status : ℕ)
    (result : Result (Vec Accessed Global) ℕ) (rows : Vec Accessed Global) → result ≡ Ok rows → MakesRowsOf c order w old new before middle result
    → IsShort new new middle after status
    → LacksTable order (around old nvm terminal before) (around new nvm terminal after) status
LacksTable-text c order w old new nvm terminal before middle after status (Err s) rows is h short = absurd (cc)
LacksTable-text c order w old new nvm terminal before middle after status (Ok made) rows is h short =
    record {
      source = h.source;
      job = h.job;
      runs = h.runs;
      why = inr (record {
        shelf = h.makes.0;
        is_status = short.is_status;
        closes = subst (λ (s : Stream). Closes (closing_of ClosingMemory) s after) h.makes.1 short.closes;
      });
      nvm = refl;
      terminal = refl;
    }

-- a call with one
pub PutsTable-made : {N : Type 0} (c : Choice) (d : NvmOf N) (counted_by : N → NvmCounts) (options : Options) (out name : List ℕ) (words : List (List ℕ)) (order : Order)
    (w : Window) (old middle put last : Stock) (first nvm : N) (terminal shown before reading report read : Stream) (result : Result (Vec Accessed Global) ℕ)
    (rows : Vec Accessed Global) (why : Option PutError) (answered status : ℕ)
    → w ≡ cycles_of options → result ≡ Ok rows → MakesRowsOf c order w old middle before reading result
    → IsPut name (table_text rows.items) middle put why
    → Observed c d counted_by options out words (around put first terminal reading) (around last nvm shown report) answered
    → ReportsOut name why report read answered status
    → PutsTable c d counted_by options out name words order (around old first terminal before) (around last nvm shown read) status
PutsTable-made c d counted_by options out name words order w old middle put last first nvm terminal shown before reading report read result rows why answered
    status window is made put_there observed reports =
    let h : MakesRowsOf c order (cycles_of options) old middle before reading (Ok rows) =
    subst (λ (x : Window). MakesRowsOf c order x old middle before reading (Ok rows)) window
    (subst (λ (r : Result (Vec Accessed Global) ℕ). MakesRowsOf c order w old middle before reading r) is made) in
    record {
      source = h.source;
      job = h.job;
      runs = h.runs;
      rows = rows.items;
      listed = h.makes.2;
      shelf = put;
      why = why;
      put = subst (λ (s : Stock). IsPut name (table_text rows.items) s put why) h.makes.0 put_there;
      report = report;
      answered = answered;
      observed = subst (λ (s : Stream). Observed c d counted_by options out words (around put first terminal s) (around last nvm shown report) answered) h.makes.1 observed;
      is_reported = reports;
    }

-- ---- with or without a name

module _ {N : Type 0} (c : Choice) (d : NvmOf N) (counted_by : N → NvmCounts) (options : Options) (out : List ℕ) (words : List (List ℕ)) (before after : Around N)
    (status : ℕ) where
  unnamed-by : (b : Bool) → has_cycle options ≡ b
      → MatchBool b (IsTurnedDown (Words Usage) (outside_of d before) (outside_of d after) status) (Observed c d counted_by options out words before after status)
      → Unnamed c d counted_by options out words before after status
  unnamed-by b is h =
      subst (λ (p : Bool). MatchBool p (IsTurnedDown (Words Usage) (outside_of d before) (outside_of d after) status)
      (Observed c d counted_by options out words before after status)) (sym is) h

  -- a bound is refused
  pub Unnamed-turned : has_cycle options ≡ true → IsTurnedDown (Words Usage) (outside_of d before) (outside_of d after) status
      → Unnamed c d counted_by options out words before after status
  Unnamed-turned is h = unnamed-by true is h

  -- there is none
  pub Unnamed-observed : has_cycle options ≡ false → Observed c d counted_by options out words before after status
      → Unnamed c d counted_by options out words before after status
  Unnamed-observed is h = unnamed-by false is h

  pub Beside-none : (name : Option (List ℕ)) → name ≡ None → Unnamed c d counted_by options out words before after status
      → ObservedBeside c d counted_by options out name words before after status
  Beside-none name is h = subst (λ (o : Option (List ℕ)). ObservedBeside c d counted_by options out o words before after status) (sym is) h

  -- the bytes of the name are lent
  pub Beside-named : (name : Option (List ℕ)) (own lent : List ℕ) → name ≡ Some own → lent ≡ own
      → Tabled c d counted_by options out lent words before after status → ObservedBeside c d counted_by options out name words before after status
  Beside-named name own lent is same h =
      subst (λ (o : Option (List ℕ)). ObservedBeside c d counted_by options out o words before after status) (sym is)
      (subst (λ (l : List ℕ). Tabled c d counted_by options out l words before after status) same h)
