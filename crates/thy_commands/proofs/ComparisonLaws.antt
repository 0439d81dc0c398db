-- All events of a comparison are lawful against one course, and with one hart its runs that ended have one last state.
use Rattle.std.proofs.Common.{◌≡◌, ℕ, ◌-◌, Bool, true, false, nat_le, List, [], ◌∷◌, None, refl, sym, ◌∙◌, ap, subst, inl, inr}
use Rattle.std.specs.Prelude.{MatchBool, Ok}
use Rattle.std.specs.List.{AllByRecursion, Contains}
use Rattle.std.proofs.lemmas.List.Elements.{All-contains, All-from_recursion}
use Rattle.thy_block.specs.declared.parameters.SchemeName.{SchemeName}
use Rattle.thy_base.specs.Config.{parameters_of}
use Rattle.thy_isa.specs.declared.state.Status.{Status}
use Rattle.thy_isa.specs.Step.{State, is_running, steps}
use Rattle.thy_text.specs.Event.{Event, Scheme, EpochEnd, Commit, Cut, Restart, Reload, Ended}
use Rattle.thy_text.specs.History.{all_of}
use Rattle.thy_text.specs.Marks.{Course, Marks, AllLawful, loading_marks, marks_after, marks_from}
use Rattle.thy_text.specs.OneHart.{Counts, LawfulAt, AllLawfulAt, HasNoTurns, counts_of}
use Rattle.thy_text.proofs.Histories.{AllLawful-append}
use Rattle.thy_text.proofs.OneHartLaws.{to-counts}
use Rattle.thy_computer.specs.Origin.{Origin, at, setting_of}
use Rattle.thy_base.specs.Settings.{Job}
use Rattle.thy_run.specs.Laws.{course_of, first_marks, marks_at}
use Rattle.thy_run.specs.declared.plan.Plan.{Plan}
use Rattle.thy_run.proofs.PromiseLaws.{first_without_turns}
use Rattle.thy_outcome.specs.declared.answer.Answer.{Answer}
use Rattle.thy_outcome.specs.Answering.{Around, NvmOf}
use Rattle.thy_commands.specs.Compared.{Compares, IsPlanFor}
use Rattle.thy_outcome.specs.Comparing.{EndAlike, IsComparison, RunsBy, RunsThrough, Stage, Subject, compared, first_stage, under}
use Rattle.thy_outcome.specs.Machines.{Choice}
use Rattle.thy_outcome.specs.Sources.{Beginning, IsProgram, file, meaning_of, origin_for}
use Rattle.thy_outcome.proofs.EndLaws.{same_end, at_is}
use Rattle.thy_outcome.proofs.ProgramLaws.{begun_fresh, begun_under}

-- ---- the ends among lawful events

-- the state of an end is one of the plain machine, which runs no more
record IsLast (c : Counts) (s : State) : Type 0 where
  count : ℕ
  whole : s ≡ c.at count
  over : is_running (c.at count).status ≡ false

abbrev EndsAs : Counts → Event → Type 0
EndsAs c (Ended status count cycle s) = IsLast c s
EndsAs c event = Unit {0}

ends_as : (c : Counts) (m : Marks) (v : Event) → LawfulAt c m v → EndsAs c v
ends_as c m (Ended status count cycle s) h = record {
  count = count;
  whole = h.0.whole;
  over = ap (λ (x : State). is_running x.status) (sym h.0.whole) ∙ h.0.over;
}
ends_as c m (EpochEnd epoch count cause turns) h = tt
ends_as c m (Commit epoch cycle overlapped) h = tt
ends_as c m (Cut index cycle) h = tt
ends_as c m (Restart epoch count state) h = tt
ends_as c m Reload h = tt
ends_as c m (Scheme number) h = tt

all_end_as : (c : Counts) (m : Marks) (events : List Event) → AllLawfulAt c m events → AllByRecursion (EndsAs c) events
all_end_as c m [] h = tt
all_end_as c m (v ∷ vs) h = (ends_as c m v h.0, all_end_as c (marks_after c.start m v) vs h.1)

last_among : (c : Counts) (m : Marks) (events : List Event) (status : Status) (count cycle : ℕ) (s : State) → AllLawfulAt c m events
    → Contains events (Ended status count cycle s) → IsLast c s
last_among c m events status count cycle s h there =
    All-contains (EndsAs c) events (Ended status count cycle s) (All-from_recursion (EndsAs c) events (all_end_as c m events h)) there

-- with one hart any two ends have the same state
ends_alike : (o : Origin) (m : Marks) (events : List Event) → o.geometry.harts ≡ 1 → HasNoTurns m → AllLawful (course_of o) m events
    → EndAlike events
ends_alike o m events one_hart unlisted all = λ a b k l cycle other s t one two.
    let c : Counts = counts_of (course_of o) in
    let by_counts : AllLawfulAt c m events = to-counts (course_of o) m events one_hart unlisted all in
    let first : IsLast c s = last_among c m events a k cycle s by_counts one in
    let second : IsLast c t = last_among c m events b l other t by_counts two in
    let there : c.at first.count ≡ steps (setting_of o) (first.count - o.start.count) o.start = at_is (record o { turns = [] }) first.count refl in
    let here : c.at second.count ≡ steps (setting_of o) (second.count - o.start.count) o.start = at_is (record o { turns = [] }) second.count refl in
    first.whole ∙ there
    ∙ same_end (setting_of o) o.start (first.count - o.start.count) (second.count - o.start.count)
    (ap (λ (x : State). is_running x.status) (sym there) ∙ first.over) (ap (λ (x : State). is_running x.status) (sym here) ∙ second.over)
    ∙ sym here ∙ sym second.whole

-- ---- one course

-- the scheme is nothing to what events are checked against
course_under : (scheme : SchemeName) (job : Job) (b : Beginning) (input : List ℕ)
    → course_of (origin_for (under scheme job) b input) ≡ course_of (origin_for job b input)
unfolding at
course_under scheme job b input = refl

module _ {N : Type 0} (c : Choice) (d : NvmOf N) (x : Subject) (begins : Beginning)
    (means : meaning_of (file x.name) x.job x.bytes x.input ≡ Ok begins) where
  abbrev o : Origin
  o = origin_for x.job begins x.input

  abbrev one : Course
  one = course_of o

  fresh : begins.kept ≡ None
  fresh = begun_fresh (parameters_of x.job.config) _ begins means

  module _ (first : Bool) (scheme : SchemeName) (old new : Stage N) (own : List Event) (r : RunsBy c d x first scheme old new own) where
    abbrev p : IsProgram (file x.name) (under scheme x.job) old.around.shelf
    p = r.over.program

    -- a plan begins with what is compared
    same_begins : p.begins ≡ begins
    same_begins =
        let here : meaning_of (file x.name) (under scheme x.job) x.bytes x.input ≡ Ok p.begins =
        ap (λ b. meaning_of (file x.name) (under scheme x.job) b x.input) (sym r.same_bytes) ∙ p.means in
        let there : meaning_of (file x.name) (under scheme x.job) x.bytes x.input ≡ Ok begins = begun_under scheme x.job _ ∙ means in
        cc

    same_course : course_of (origin_for (under scheme x.job) p.begins p.input) ≡ one
    same_course =
        course_under scheme x.job p.begins p.input
        ∙ ap (λ b. course_of (origin_for x.job b p.input)) same_begins
        ∙ ap (λ i. course_of (origin_for x.job begins i)) r.same_input

    same_marks : marks_at p.begins.start.count p.begins.kept ≡ loading_marks o.start.count
    same_marks = ap (λ (b : Beginning). marks_at b.start.count b.kept) same_begins ∙ ap (marks_at begins.start.count) fresh

    -- the events of a run are lawful after any others, because its first one makes the marks with which it begins
    lawful_run : (m : Marks) → AllLawful one m own
    lawful_run m =
        let all : AllLawful one (loading_marks o.start.count) (all_of r.run.events) =
        subst (λ k. AllLawful k (loading_marks o.start.count) (all_of r.run.events)) same_course
        (subst (λ n. AllLawful (course_of (origin_for (under scheme x.job) p.begins p.input)) n (all_of r.run.events)) same_marks
        r.over.ran.seen.promise.events_lawful) in
        subst (AllLawful one m) (sym r.events_are) (tt, all)

  -- the events of all runs are lawful
  lawful_through : (first : Bool) (schemes : List SchemeName) (old new : Stage N) (events : List Event) (m : Marks)
      → RunsThrough c d x first schemes old new events → AllLawful one m events
  lawful_through first [] old new events m (same, none) = subst (AllLawful one m) (sym none) tt
  lawful_through first (scheme ∷ schemes) old new events m (inl ends) = subst (AllLawful one m) (sym ends.none) tt
  lawful_through first (scheme ∷ schemes) old new events m (inr (middle, own, rest, run, parts, then)) =
      subst (AllLawful one m) (sym parts) (AllLawful-append one m own rest (lawful_run first scheme old middle own run m)
      (by_low (nat_le middle.status 1) (lawful_through false schemes middle new rest (marks_from one.start m own)) then))
    where
      by_low : (low : Bool) → (RunsThrough c d x false schemes middle new rest → AllLawful one (marks_from one.start m own) rest)
          → MatchBool low (RunsThrough c d x false schemes middle new rest) ((new ≡ middle) × (rest ≡ []))
          → AllLawful one (marks_from one.start m own) rest
      by_low true go more = go more
      by_low false go (same, none) = subst (AllLawful one (marks_from one.start m own)) (sym none) tt

-- the runs of a plan, which is the program's plan under each scheme, are a comparison of the program
pub IsComparison-compares : {N : Type 0} (c : Choice) (d : NvmOf N) (name : List ℕ) (job : Job) (plan : Plan) (before after : Around N)
    (a : Answer) (p : IsProgram (file name) job before.shelf)
    → ((scheme : SchemeName) → IsPlanFor (record { name = name; job = job; bytes = p.bytes; input = p.input }) before.shelf plan scheme)
    → Compares c d name plan before after a → IsComparison c d name job before after a
IsComparison-compares c d name job plan before after a p plans compares =
    let x : Subject = record { name = name; job = job; bytes = p.bytes; input = p.input } in
    let all = compares x refl plans in
    let o : Origin = origin_for job p.begins p.input in
    let lawful : AllLawful (course_of o) (first_marks o) (all_of a.events) =
    lawful_through c d x p.begins p.means true compared (first_stage before) all.0 (all_of a.events) (first_marks o) all.1 in
    record {
      program = p;
      last = all.0;
      runs = all.1;
      left = all.2;
      status = all.3;
      cycles = all.4;
      events_lawful = lawful;
      ends_alike = λ one. ends_alike o (first_marks o) (all_of a.events) one (first_without_turns o.start.count o.kept) lawful;
    }
