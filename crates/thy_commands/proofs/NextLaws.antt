-- What each run adds to a comparison, and what they are together.
use Rattle.std.proofs.Common.{◌≡◌, ℕ, nat_le, Bool, true, false, List, [], ◌∷◌, ◌++◌, refl, sym, ◌∙◌, ap, subst, inl, inr, append_assoc, append-nil}
use Rattle.std.specs.Prelude.{MatchBool, None}
use Rattle.thy_block.specs.declared.parameters.SchemeName.{SchemeName}
use Rattle.thy_block.specs.declared.parameters.SchemeName.TheVariants.{Thynvm, Journal, Shadow}
use Rattle.thy_block.specs.declared.nvm.FitError.TheVariants.{Failed as FitFailed, Memory as FitMemory}
use Rattle.thy_block.specs.Schemes.{scheme_number}
use Rattle.thy_text.specs.Event.{Event, Scheme}
use Rattle.thy_text.specs.History.{all_of}
use Rattle.thy_run.specs.Sending.{Sent}
use Rattle.thy_run.specs.declared.plan.Plan.{Plan}
use Rattle.thy_outcome.specs.declared.answer.Answer.{Answer}
use Rattle.thy_commands.specs.declared.comparing.Compared.{Compared}
use Rattle.thy_outcome.specs.declared.refusal.Refusal.{Refusal}
use Rattle.thy_outcome.specs.declared.refusal.Refusal.TheVariants.{Words, Fetch, File, Image, Input, Device as DeviceRefusal, Memory as MemoryRefusal}
use Rattle.thy_outcome.specs.Answering.{Around, NvmOf, stop_line}
use Rattle.thy_commands.specs.Compared.{Compares, HasNotRun, HasRunNext, IsPlanFor, RunsNext, events_of, plan_under, recorded_of, stage_of}
use Rattle.thy_outcome.specs.Comparing.{EndsBefore, NotBegun, RunsBy, RunsThrough, Stage, Subject, compared, first_stage, scheme_lines, terminal_for, under, with_scheme}
use Rattle.thy_outcome.specs.Machines.{Choice}
use Rattle.thy_files.specs.Beginnings.{Begins, FitsKept}
use Rattle.thy_outcome.specs.Kept.{answer_of, refused_status}
use Rattle.thy_block.specs.declared.parameters.Parameters.{Parameters}
use Rattle.thy_block.specs.Bytes.{bytes_of}
use Rattle.thy_base.specs.Config.{fault_of, parameters_of}
use Rattle.thy_block.specs.Outside.{Stock}
use Rattle.thy_computer.specs.Origin.{IsOrigin}
use Rattle.thy_base.specs.Settings.{Job}
use Rattle.thy_files.specs.declared.restoring.Beginning.{Beginning as BeginningValue}
use Rattle.thy_outcome.specs.Sources.{Beginning, file, origin_for}
use Rattle.thy_outcome.proofs.ProgramLaws.{begun_bare, begun_fresh, program_under}
use Rattle.thy_execute.proofs.PlanLemmas.{IsBegun, IsBegun-begins, plan_with}
use Rattle.thy_outcome.proofs.UnsavedLaws.{shelf_stays}

-- what a run of a comparison finds, with the terminal to which it writes
abbrev pub for_run : {N : Type 0} → Bool → Around N → Around N
for_run first w = record w { terminal = terminal_for first w.terminal }

-- runs by these schemes added events to those before
abbrev pub RunsUpTo : {N : Type 0} → Choice → NvmOf N → Subject → Bool → List SchemeName → Stage N → Stage N → (before all : List Event)
    → Type 0
RunsUpTo c d x first schemes old new before all = (own : List Event) × RunsThrough c d x first schemes old new own × (all ≡ before ++ own)

-- the status of a run that was not begun
high : {N : Type 0} (d : NvmOf N) (old new : N) (why : Refusal) → NotBegun d old new why → nat_le (refused_status why) 1 ≡ false
high d old new (MemoryRefusal e) due = refl
high d old new (DeviceRefusal FitFailed) due = refl
high d old new (DeviceRefusal (FitMemory e)) due = refl
high d old new (Words e) due = absurd due
high d old new (Fetch name e) due = absurd due
high d old new (File e) due = absurd due
high d old new (Image bad) due = absurd due
high d old new (Input cursor length) due = absurd due

module _ {N : Type 0} (c : Choice) (d : NvmOf N) (x : Subject) (p : Plan) (first : Bool) (scheme : SchemeName) (schemes : List SchemeName)
    (old new : Around N) (so_far next : Compared)
    (plan_for : IsPlanFor x old.shelf p scheme) (quiet : first ≡ false → new.terminal ≡ old.terminal)
    (next_is : RunsNext (c scheme).kind d x.name (plan_under scheme p) (for_run first old) (for_run first new) so_far next)
    (shown : (for_run first new).terminal ≡ (for_run first old).terminal → new.terminal ≡ old.terminal) where
  runs_by : (h : HasRunNext (c scheme).kind d x.name (plan_under scheme p) (for_run first old) (for_run first new) so_far next)
      → RunsBy c d x first scheme (stage_of old so_far) (stage_of new next) (Scheme (scheme_number scheme) ∷ h.ran.events)
  runs_by h =
      let r = h.run (under scheme x.job) refl plan_for.is_plan in
      record {
        run = answer_of h.ran;
        over = record { program = plan_for.is_plan.program; ran = r.0 };
        same_bytes = plan_for.same_bytes;
        same_input = plan_for.same_input;
        quiet = quiet;
        events_are = refl;
        failed = h.failed;
        lines =
            subst (λ stop. Sent h.failed old.report new.report
            (scheme_lines scheme h.ran.events (d.device new.nvm).writes ++ stop_line x.job.config.limit stop)) (sym r.1)
            (subst (λ l. Sent h.failed old.report new.report (scheme_lines scheme h.ran.events (d.device new.nvm).writes ++ stop_line l h.ran.stop)) plan_for.same_limit h.lines);
        status = h.status;
        cycles = h.cycles;
      }

  ends_before : HasNotRun d (for_run first old) (for_run first new) so_far next → EndsBefore d (stage_of old so_far) (stage_of new next) []
  ends_before h = record {
    why = h.why;
    due = h.due;
    none = refl;
    shelf = h.shelf;
    terminal = shown h.terminal;
    closes = h.closes;
    status = h.status;
    cycles = h.cycles;
  }

  -- a run after which there is no other
  pub ends_here : nat_le next.status 1 ≡ false
      → RunsUpTo c d x first (scheme ∷ schemes) (stage_of old so_far) (stage_of new next) (events_of so_far) (events_of next)
  ends_here is = by_next next_is
    where
      by_next : RunsNext (c scheme).kind d x.name (plan_under scheme p) (for_run first old) (for_run first new) so_far next
          → RunsUpTo c d x first (scheme ∷ schemes) (stage_of old so_far) (stage_of new next) (events_of so_far) (events_of next)
      by_next (inl h) = ([], inl (ends_before h), h.events ∙ sym (append-nil (events_of so_far)))
      by_next (inr h) =
          let own : List Event = Scheme (scheme_number scheme) ∷ h.ran.events in
          let none : List Event = [] in (
            own,
            inr (
              stage_of new next,
              own,
              none,
              runs_by h,
              sym (append-nil own),
              subst (λ b. MatchBool b (RunsThrough c d x false schemes (stage_of new next) (stage_of new next) none)
                  ((stage_of new next ≡ stage_of new next) × (none ≡ none))) (sym is) (refl, refl),
            ),
            h.events,
          )

  -- a run after which others follow
  pub goes_on : (last : Stage N) (all : List Event) → nat_le next.status 1 ≡ true
      → RunsUpTo c d x false schemes (stage_of new next) last (events_of next) all
      → RunsUpTo c d x first (scheme ∷ schemes) (stage_of old so_far) last (events_of so_far) all
  goes_on last all is (rest, runs, sum) = by_next next_is
    where
      by_next : RunsNext (c scheme).kind d x.name (plan_under scheme p) (for_run first old) (for_run first new) so_far next
          → RunsUpTo c d x first (scheme ∷ schemes) (stage_of old so_far) last (events_of so_far) all
      by_next (inl h) = absurd (let low : nat_le (refused_status h.why) 1 ≡ true = ap (λ n. nat_le n 1) (sym h.status) ∙ is in
          let not_low : nat_le (refused_status h.why) 1 ≡ false = high d old.nvm new.nvm h.why h.due in cc)
      by_next (inr h) =
          let own : List Event = Scheme (scheme_number scheme) ∷ h.ran.events in
          let none : List Event = [] in (
            own ++ rest,
            inr (
              stage_of new next,
              own,
              rest,
              runs_by h,
              refl,
              subst (λ b. MatchBool b (RunsThrough c d x false schemes (stage_of new next) last rest)
                  ((last ≡ stage_of new next) × (rest ≡ none))) (sym is) runs,
            ),
            sum ∙ ap (λ l. l ++ rest) h.events ∙ append_assoc (events_of so_far) own rest,
          )

  -- a run leaves the shelf alone
  pub shelf_kept : new.shelf ≡ old.shelf
  shelf_kept = by_next next_is
    where
      by_next : RunsNext (c scheme).kind d x.name (plan_under scheme p) (for_run first old) (for_run first new) so_far next
          → new.shelf ≡ old.shelf
      by_next (inl h) = h.shelf
      by_next (inr h) = shelf_stays c d x first scheme (stage_of old so_far) (stage_of new next)
          (Scheme (scheme_number scheme) ∷ h.ran.events) (runs_by h)

  -- the last one of all, whatever its status
  pub ends_last : schemes ≡ []
      → RunsUpTo c d x first (scheme ∷ schemes) (stage_of old so_far) (stage_of new next) (events_of so_far) (events_of next)
  ends_last none = by_low (nat_le next.status 1) refl
    where
      by_low : (low : Bool) → nat_le next.status 1 ≡ low
          → RunsUpTo c d x first (scheme ∷ schemes) (stage_of old so_far) (stage_of new next) (events_of so_far) (events_of next)
      by_low false is = ends_here is
      by_low true is =
          goes_on (stage_of new next) (events_of next) is
          (subst (λ l. RunsUpTo c d x false l (stage_of new next) (stage_of new next) (events_of next) (events_of next)) (sym none)
          ([], (refl, refl), sym (append-nil (events_of next))))

-- ---- all three

-- what the program begins with is the first stage
pub record IsNothing (c : Compared) : Type 0 where
  pub events : events_of c ≡ []
  pub status : c.status ≡ 0
  pub cycles : c.cycles ≡ 0

abbrev stage : {N : Type 0} → Around N → ℕ → ℕ → Stage N
stage w status cycles = record { around = w; status = status; cycles = cycles }

first_is : {N : Type 0} (w : Around N) (c : Compared) → IsNothing c → stage_of w c ≡ first_stage w
first_is w c h = ap (λ n. stage w n c.cycles) h.status ∙ ap (stage w 0) h.cycles

-- an answer says what was compared
pub record IsAnswerOf (c : Compared) (a : Answer) : Type 0 where
  pub status : a.status ≡ c.status
  pub events : a.events ≡ recorded_of c
  pub cycles : a.cycles ≡ c.cycles

-- the run by a scheme of a plan that was put under it
abbrev pub Nexts : {N : Type 0} → Choice → NvmOf N → List ℕ → Plan → Bool → SchemeName → Around N → Around N → Compared → Compared → Type 0
Nexts c d name p first scheme old new so_far next =
    RunsNext (c scheme).kind d name (plan_under scheme p) (for_run first old) (for_run first new) so_far next

module _ {N : Type 0} (c : Choice) (d : NvmOf N) (name : List ℕ) (p : Plan) (before w : Around N) (nothing first : Compared) (a : Answer)
    (begins : IsNothing nothing) (ran : Nexts c d name p true Thynvm before w nothing first) where
  module _ (after : Around N) (last : Compared) (answers : IsAnswerOf last a) where
    compares : ((x : Subject) → x.name ≡ name → ((scheme : SchemeName) → IsPlanFor x before.shelf p scheme)
        → RunsUpTo c d x true compared (stage_of before nothing) (stage_of after last) (events_of nothing) (events_of last))
        → Compares c d name p before after a
    compares up_to = λ x is plans.
        let r = up_to x is plans in
        let all : r.0 ≡ all_of a.events = sym (ap all_of answers.events ∙ r.2 ∙ ap (λ l. l ++ r.0) begins.events) in (
          stage_of after last,
          subst (λ l. RunsThrough c d x true compared (first_stage before) (stage_of after last) l) all
              (subst (λ s. RunsThrough c d x true compared s (stage_of after last) r.0) (first_is before nothing begins) r.1),
          refl,
          answers.status,
          answers.cycles,
        )

  named_for : (f : Bool) (s : SchemeName) (u v : Around N) (m n : Compared) (x : Subject) → x.name ≡ name → Nexts c d name p f s u v m n
      → Nexts c d x.name p f s u v m n
  named_for f s u v m n x is h = subst (λ own. Nexts c d own p f s u v m n) (sym is) h

  -- the first run is the last
  pub compares_one : IsAnswerOf first a → nat_le first.status 1 ≡ false → Compares c d name p before w a
  compares_one answers high = compares w first answers (λ x is plans.
      ends_here c d x p true Thynvm (Journal ∷ Shadow ∷ []) before w nothing first (plans Thynvm) (λ e. absurd (cc))
      (named_for true Thynvm before w nothing first x is ran) (λ e. e) high)

  module _ (low : nat_le first.status 1 ≡ true) (u : Around N) (second : Compared) (mute : u.terminal ≡ w.terminal)
      (next : Nexts c d name p false Journal w u first second) where
    plans_then : (x : Subject) → x.name ≡ name → ((scheme : SchemeName) → IsPlanFor x before.shelf p scheme) → (scheme : SchemeName)
        → IsPlanFor x w.shelf p scheme
    plans_then x is plans scheme =
        subst (λ s. IsPlanFor x s p scheme)
        (sym (shelf_kept c d x p true Thynvm (Journal ∷ Shadow ∷ []) before w nothing first (plans Thynvm) (λ e. absurd (cc))
        (named_for true Thynvm before w nothing first x is ran) (λ e. e))) (plans scheme)

    after_first : (x : Subject) (last : Stage N) (all : List Event) → x.name ≡ name
        → ((scheme : SchemeName) → IsPlanFor x before.shelf p scheme)
        → RunsUpTo c d x false (Journal ∷ Shadow ∷ []) (stage_of w first) last (events_of first) all
        → RunsUpTo c d x true compared (stage_of before nothing) last (events_of nothing) all
    after_first x last all is plans rest =
        goes_on c d x p true Thynvm (Journal ∷ Shadow ∷ []) before w nothing first (plans Thynvm) (λ e. absurd (cc))
        (named_for true Thynvm before w nothing first x is ran) (λ e. e) last all low rest

    -- the second run is the last
    pub compares_two : IsAnswerOf second a → nat_le second.status 1 ≡ false → Compares c d name p before u a
    compares_two answers high = compares u second answers (λ x is plans.
        after_first x (stage_of u second) (events_of second) is plans
        (ends_here c d x p false Journal (Shadow ∷ []) w u first second (plans_then x is plans Journal) (λ e. mute)
        (named_for false Journal w u first second x is next) (λ e. mute) high))

    -- a comparison of three runs
    pub compares_three : (v : Around N) (third : Compared) → nat_le second.status 1 ≡ true → v.terminal ≡ u.terminal
        → Nexts c d name p false Shadow u v second third → IsAnswerOf third a → Compares c d name p before v a
    compares_three v third low_again still final answers = compares v third answers (λ x is plans.
        let then : (scheme : SchemeName) → IsPlanFor x u.shelf p scheme = λ scheme.
        subst (λ s. IsPlanFor x s p scheme) (sym (shelf_kept c d x p false Journal (Shadow ∷ []) w u first second
        (plans_then x is plans Journal) (λ e. mute) (named_for false Journal w u first second x is next) (λ e. mute)))
        (plans_then x is plans scheme) in
        after_first x (stage_of v third) (events_of third) is plans
        (goes_on c d x p false Journal (Shadow ∷ []) w u first second (plans_then x is plans Journal) (λ e. mute)
        (named_for false Journal w u first second x is next) (λ e. mute)
        (stage_of v third) (events_of third) low_again
        (ends_last c d x p false Shadow [] u v second third (then Shadow) (λ e. still) (named_for false Shadow u v second third x is final) (λ e. still) refl)))

-- ---- what a comparison is of

IsOrigin-under : (scheme : SchemeName) (job : Job) (b : Beginning) (input : List ℕ) → IsOrigin (origin_for job b input)
    → IsOrigin (origin_for (under scheme job) b input)
IsOrigin-under scheme job b input h = record {
  geometry = h.geometry;
  recordable = record {
    pc = h.recordable.pc;
    regs_length = h.recordable.regs_length;
    regs_zero = h.recordable.regs_zero;
    regs = h.recordable.regs;
    console = h.recordable.console;
    cursor = h.recordable.cursor;
    brk = h.recordable.brk;
    floor = h.recordable.floor;
    count = h.recordable.count;
    status = h.recordable.status;
    other = h.recordable.other;
  };
  memory = h.memory;
  storable = h.storable;
  readable = h.readable;
  starts = h.starts;
}

-- under a scheme a job begins with the same
Begins-under : (scheme : SchemeName) (name : List ℕ) (job : Job) (stock : Stock) (b : BeginningValue) → Begins (file name) job stock b
    → Begins (file name) (under scheme job) stock b
Begins-under scheme name job stock b h = record {
  program = program_under scheme name job stock h.program;
  begins = h.begins;
  input = h.input;
  origin = IsOrigin-under scheme job h.program.begins h.program.input h.origin;
  fits =
      subst (FitsKept (parameters_of (under scheme job).config) h.program.begins)
      (sym (begun_fresh (parameters_of job.config) _ h.program.begins h.program.means))
      (begun_bare (parameters_of job.config) _ h.program.begins h.program.means);
}

-- a plan under each scheme can be run
pub begun_under_each : (job : Job) (name : List ℕ) (stock : Stock) (b : BeginningValue) (numbers : Parameters) → fault_of job.config ≡ None
    → numbers ≡ parameters_of job.config → Begins (file name) job stock b → (scheme : SchemeName)
    → IsBegun (file name) (under scheme job) stock (plan_under scheme (plan_with job.config numbers b.start job.digest)) b.blocks.items
begun_under_each job name stock b numbers none same h scheme =
    IsBegun-begins (file name) (under scheme job) stock b (parameters_of (with_scheme scheme job.config)) none refl
    (Begins-under scheme name job stock b h)

-- a run of a program file begins over no blocks
pub no_blocks : (name : List ℕ) (job : Job) (stock : Stock) (b : BeginningValue) → Begins (file name) job stock b → b.blocks.items ≡ []
no_blocks name job stock b h = ap (λ (x : Beginning). x.blocks) h.begins ∙ begun_bare (parameters_of job.config) _ h.program.begins h.program.means

-- a plan of a program file is a plan of the program that was read
pub plan_for_each : (job : Job) (name : List ℕ) (stock : Stock) (b : BeginningValue) (numbers : Parameters)
    (h : Begins (file name) job stock b) (scheme : SchemeName)
    → IsPlanFor (record { name = name; job = job; bytes = h.program.bytes; input = h.program.input }) stock
    (plan_with job.config numbers b.start job.digest) scheme
plan_for_each job name stock b numbers h scheme = record {
  is_plan = record {
    config = refl;
    digest = refl;
    program = program_under scheme name job stock h.program;
    origin = ap (λ y. origin_for (under scheme job) y (bytes_of b.start.input)) h.begins
        ∙ ap (origin_for (under scheme job) h.program.begins) h.input;
    over = sym (begun_bare (parameters_of job.config) _ h.program.begins h.program.means);
  };
  same_bytes = refl;
  same_input = refl;
  same_limit = refl;
}
