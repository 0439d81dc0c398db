-- The runs of a comparison, one after another: if nothing fails, each tells the program's own end.
use Rattle.std.proofs.Common.{◌≡◌, ℕ, ◌-◌, ◌^◌, ◌<◌, ◌≤◌, nat_le, if◌then◌else◌, Bool, true, false, None, List, [], ◌∷◌, ◌++◌, refl, sym, ◌∙◌, ap, subst, inl, inr, arith}
use Rattle.std.specs.Prelude.{◌⊎◌, MatchBool}
use Rattle.std.proofs.lemmas.Bool.{leb-true}
use Rattle.thy_block.specs.declared.parameters.SchemeName.{SchemeName}
use Rattle.thy_block.specs.Device.{Device}
use Rattle.thy_base.specs.Config.{parameters_of}
use Rattle.thy_block.specs.Outside.{Stock, Stream}
use Rattle.thy_block.specs.Schemes.{scheme_name}
use Rattle.thy_isa.specs.declared.state.Status.{Status}
use Rattle.thy_isa.specs.Step.{State, is_running}
use Rattle.thy_text.specs.Event.{Event}
use Rattle.thy_text.specs.History.{all_of}
use Rattle.thy_text.specs.Summary.{scheme_line}
use Rattle.thy_base.specs.Settings.{Job}
use Rattle.thy_run.specs.declared.ending.Stop.{Stop}
use Rattle.thy_run.specs.declared.ending.Stop.TheVariants.{Ended, Nvm, Memory, Terminal, Report, Limit}
use Rattle.thy_run.specs.Cuts.{has_ended}
use Rattle.thy_run.specs.Endings.{StopFits, is_memory}
use Rattle.thy_run.specs.Progress.{cycles_for}
use Rattle.thy_run.specs.Sending.{Delivered, Sent}
use Rattle.thy_computer.specs.Origin.{at}
use Rattle.thy_outcome.specs.declared.answer.Answer.{Answer}
use Rattle.thy_outcome.specs.declared.refusal.Refusal.{Refusal}
use Rattle.thy_outcome.specs.declared.refusal.Refusal.TheVariants.{Words, Fetch, File, Image, Input, Device as DeviceRefusal, Memory as MemoryRefusal}
use Rattle.thy_outcome.specs.Answering.{Around, NvmOf, IsRunOf, given_for, outside_of, run_status, stop_line, stop_status, with_device}
use Rattle.thy_outcome.specs.Comparing.{CompareAnswered, NotBegun, RunsBy, RunsThrough, Stage, Subject, compared, first_stage, line_status, scheme_lines, seen_by, under}
use Rattle.thy_outcome.specs.Calm.{IsCalm, Stayed, HasEndOf, left_alone}
use Rattle.thy_outcome.specs.Machines.{Choice}
use Rattle.thy_outcome.specs.Kept.{refused_status}
use Rattle.thy_outcome.specs.Saving.{saves}
use Rattle.thy_outcome.specs.Sources.{Beginning, file, origin_for}
use Rattle.thy_outcome.proofs.CompleteLaws.{Stands, by_save, calm_seen, delivered_faults, device_due, not_risen, program_due}
use Rattle.thy_outcome.proofs.ClosingLaws.{unsummed}
use Rattle.thy_outcome.proofs.ProgramLaws.{program_under}
use Rattle.thy_outcome.proofs.UnsavedLaws.{saves_none, shelf_stays}

-- ---- one run

-- the scheme is nothing to the plain machine
pub at_under : (scheme : SchemeName) (job : Job) (b : Beginning) (input : List ℕ) (n : ℕ)
    → at (origin_for (under scheme job) b input) n ≡ at (origin_for job b input) n
unfolding at
at_under scheme job b input n = refl

-- a status of 0 or 1 is the status of an end
ended_low : (stop : Stop) → stop_status stop ≤ 1 → (status : Status) × (stop ≡ Ended status)
ended_low (Ended status) low = (status, refl)
ended_low Terminal low = absurd (omega (arith, low))
ended_low Report low = absurd (omega (arith, low))
ended_low Nvm low = absurd (omega (arith, low))
ended_low Limit low = absurd (omega (arith, low))
ended_low Memory low = absurd (omega (arith, low))

-- if the status is 0 or 1, the report did not refuse the run's line, and the run has no other line
line_heard : (ended failed : Bool) (status : ℕ) (line : List ℕ) (old new : Stream) → line_status ended failed status ≤ 1
    → (ended ≡ false → status ≤ 1 → line ≡ []) → Sent failed old new line → failed ≡ false
line_heard ended false status line old new low empty sent = refl
line_heard true true status line old new low empty sent = absurd (omega (arith, low))
line_heard false true status line old new low empty sent = absurd (sent.1 (empty refl low))

-- a line that the report took leaves the status
line_same : (ended failed : Bool) (status : ℕ) → failed ≡ false → line_status ended failed status ≡ status
line_same true false status heard = refl
line_same false false status heard = refl
line_same true true status heard = absurd (cc)
line_same false true status heard = refl

-- what stays over a run by a scheme: the counts of faults of device and sinks
pub record StaysOver {N : Type 0} (d : NvmOf N) (old new : Around N) : Type 0 where
  pub device : (d.device new.nvm).faults ≡ (d.device old.nvm).faults
  pub terminal : new.terminal.faults ≡ old.terminal.faults
  pub report : new.report.faults ≡ old.report.faults

-- the first run's terminal is the terminal of the call
shown_stays : {N : Type 0} (d : NvmOf N) (first : Bool) (old new : Around N) → first ≡ true
    → (seen_by d first new).terminal.faults ≡ (seen_by d first old).terminal.faults → new.terminal.faults ≡ old.terminal.faults
shown_stays d true old new is h = h
shown_stays d false old new is h = absurd (cc)

module _ {N : Type 0} (c : Choice) (d : NvmOf N) (x : Subject) (first : Bool) (scheme : SchemeName) (old new : Stage N)
    (events : List Event) (r : RunsBy c d x first scheme old new events) where
  abbrev seen : IsRunOf (c scheme).kind (file x.name) (under scheme x.job) (with_device r.over.ran.found (seen_by d first old.around))
      r.over.program (with_device r.over.ran.left (seen_by d first new.around)) r.run
  seen = r.over.ran.seen

  put_none : (r.over.ran.left ≡ seen.stood) × (new.around.shelf ≡ old.around.shelf) × (seen.why ≡ None)
  put_none = saves_none (saves seen.ending.stop)
      (under scheme x.job).config seen.stood r.over.ran.left old.around.shelf new.around.shelf seen.why seen.saved

  run_is : r.run.status ≡ stop_status seen.ending.stop
  run_is =
      (unsummed x.name (under scheme x.job).config.limit (under scheme x.job).save seen.ending seen.why r.run.status seen.reported
      (seen_by d first new.around).report seen.closes).1
      ∙ ap (run_status seen.ending.stop) put_none.2

  abbrev ended : Bool
  ended = has_ended (all_of r.run.events)

  -- a run that has not ended, and has one of these statuses, has no line
  no_line : (e : Bool) → ended ≡ e → e ≡ false → r.run.status ≤ 1
      → scheme_lines scheme (all_of r.run.events) (d.device new.around.nvm).writes ++ stop_line x.job.config.limit seen.ending.stop ≡ []
  no_line e is none low =
      let stop : (status : Status) × (seen.ending.stop ≡ Ended status) = ended_low seen.ending.stop (subst (λ n. n ≤ 1) run_is low) in
      ap (λ b. (if b then scheme_line (scheme_name scheme) (all_of r.run.events) (d.device new.around.nvm).writes else [])
      ++ stop_line x.job.config.limit seen.ending.stop) (is ∙ none)
      ∙ ap (stop_line x.job.config.limit) stop.1

  heard_low : new.status ≤ 1 → r.failed ≡ false
  heard_low low =
      line_heard ended r.failed r.run.status _ old.around.report new.around.report (subst (λ n. n ≤ 1) r.status low)
      (λ none few. no_line ended refl none few) r.lines

  -- if the report took its line, the status is the run's
  status_by : r.failed ≡ false → new.status ≡ r.run.status
  status_by heard = r.status ∙ line_same ended r.failed r.run.status heard

  -- what the report took of its line, if it did not fail
  report_by : (failed : Bool) (line : List ℕ) → Sent failed old.around.report new.around.report line → failed ≡ false
      → new.around.report.faults ≡ old.around.report.faults
  report_by false line sent heard = sent.faults
  report_by true line sent heard = absurd (cc)

  pub status_is : new.status ≤ 1 → new.status ≡ stop_status seen.ending.stop
  status_is low = status_by (heard_low low) ∙ run_is

  -- if the status is 0 or 1 the run has ended, so nothing failed
  pub stays_low : new.status ≤ 1 → StaysOver d old.around new.around
  stays_low low =
      let ended : (status : Status) × (seen.ending.stop ≡ Ended status) = ended_low seen.ending.stop (subst (λ n. n ≤ 1) (status_is low) low) in
      let given = given_for (c scheme).kind (under scheme x.job) r.over.program.begins r.over.ran.found in
      let fits = subst (StopFits (parameters_of (under scheme x.job).config).limit given.fitted seen.stood seen.ending) ended.1 seen.ran.stop_fits in
      record {
        device =
            sym r.over.ran.is_left.faults ∙ ap (λ (n : Device). n.faults) put_none.0 ∙ fits.2 ∙ r.over.ran.is_found.faults;
        terminal = terminal_stays first refl fits.1.0;
        report = report_by r.failed _ r.lines (heard_low low);
      }
    where
      terminal_stays : (f : Bool) → first ≡ f → seen.ending.terminal_failed ≡ false → new.around.terminal.faults ≡ old.around.terminal.faults
      terminal_stays false is heard = ap (λ (t : Stream). t.faults) (r.quiet is)
      terminal_stays true is heard =
          shown_stays d first old.around new.around is
          (delivered_faults (is_memory seen.ending.stop) seen.ending.terminal_failed _ _ (seen_by d first old.around).terminal
          (seen_by d first new.around).terminal heard seen.ran.shown_all)

-- ---- all runs

-- a program that stands on a shelf, to a job, with the state in which it ends
record StandsWith (name : List ℕ) (job : Job) (k : ℕ) (last : State) (stock : Stock) : Type 0 where
  stands : Stands (file name) job stock
  is_last : left_alone stands.program k ≡ last

stands_under : (scheme : SchemeName) (name : List ℕ) (job : Job) (k : ℕ) (stock : Stock) (s : Stands (file name) job stock)
    → StandsWith name (under scheme job) k (left_alone s.program k) stock
stands_under scheme name job k stock s = record {
  stands = record { files = s.files; holds_files = s.holds_files; program = program_under scheme name job stock s.program };
  is_last = at_under scheme job s.program.begins s.program.input _;
}

-- a run that was not begun has failed, or memory ran out
before_due : {N : Type 0} (d : NvmOf N) (old new : N) (why : Refusal) → Stayed (d.device old).faults (d.device new).faults
    → NotBegun d old new why → refused_status why ≡ 9
before_due d old new (MemoryRefusal e) calm due = refl
before_due d old new (DeviceRefusal e) calm due = device_due e (d.device old) (d.device new) calm due
before_due d old new (Words e) calm due = absurd due
before_due d old new (Fetch name e) calm due = absurd due
before_due d old new (File e) calm due = absurd due
before_due d old new (Image bad) calm due = absurd due
before_due d old new (Input cursor length) calm due = absurd due

-- a sink whose count stayed took all
sent_calm : (failed : Bool) (line : List ℕ) (old new : Stream) → Stayed old.faults new.faults → Sent failed old new line → failed ≡ false
sent_calm false line old new stayed sent = refl
sent_calm true line old new stayed sent = not_risen old.faults new.faults stayed sent.0.rose

-- the status is the status of this state's end, or memory ran out
abbrev EndsAs : State → ℕ → Type 0
EndsAs s n = (n ≡ stop_status (Ended s.status)) ⊎ (n ≡ 9)

ends_same : (s : State) (n m : ℕ) → m ≡ n → EndsAs s n → EndsAs s m
ends_same s n m same (inl is) = inl (same ∙ is)
ends_same s n m same (inr is) = inr (same ∙ is)

-- what a run sees has not failed: its report never does
calm_by : {N : Type 0} (d : NvmOf N) (first : Bool) (old new : Around N) → new.shelf ≡ old.shelf → old.shelf.faults < 2 ^ 64 - 1
    → Stayed (d.device old.nvm).faults (d.device new.nvm).faults → Stayed old.terminal.faults new.terminal.faults
    → IsCalm (seen_by d first old) (seen_by d first new)
calm_by d true old new shelf counts device terminal = record {
  shelf = record { same = ap (λ (t : Stock). t.faults) shelf; counts = counts };
  device = device;
  terminal = terminal;
  report = record { same = refl; counts = omega arith };
}
calm_by d false old new shelf counts device terminal = record {
  shelf = record { same = ap (λ (t : Stock). t.faults) shelf; counts = counts };
  device = device;
  terminal = record { same = refl; counts = omega arith };
  report = record { same = refl; counts = omega arith };
}

module _ {N : Type 0} (c : Choice) (d : NvmOf N) (name : List ℕ) (job : Job) (bytes input : List ℕ) (stock : Stock)
    (s : Stands (file name) job stock) (k : ℕ) (counts : stock.faults < 2 ^ 64 - 1)
    (one : job.config.harts ≡ 1) (over : is_running (left_alone s.program k).status ≡ false)
    (limit : (scheme : SchemeName) → cycles_for (c scheme).kind (parameters_of (under scheme job).config) job.config.cuts k
    ≤ job.config.limit) where
  abbrev x : Subject
  x = record { name = name; job = job; bytes = bytes; input = input }

  abbrev last : State
  last = left_alone s.program k

  -- a run in which nothing failed
  ends_run : (first : Bool) (scheme : SchemeName) (old new : Stage N) (events : List Event) → old.around.shelf ≡ stock
      → Stayed (d.device old.around.nvm).faults (d.device new.around.nvm).faults
      → Stayed old.around.terminal.faults new.around.terminal.faults
      → Stayed old.around.report.faults new.around.report.faults → RunsBy c d x first scheme old new events → EndsAs last new.status
  ends_run first scheme old new events is_stock device terminal report r =
      let t : StandsWith name (under scheme job) k last old.around.shelf =
      subst (StandsWith name (under scheme job) k last) (sym is_stock) (stands_under scheme name job k stock s) in
      let ran = r.over.ran in
      let calm : IsCalm (seen_by d first old.around) (seen_by d first new.around) =
      calm_by d first old.around new.around (shelf_stays c d x first scheme old new events r)
      (subst (λ (y : Stock). y.faults < 2 ^ 64 - 1) (sym is_stock) counts) device terminal in
      let holds_files : HasEndOf (left_alone t.stands.program k) r.run =
      by_save (c scheme).kind (file name) (under scheme job) k (with_device ran.found (seen_by d first old.around)) r.over.program
      (with_device ran.left (seen_by d first new.around)) r.run t.stands
      (calm_seen job.config.gap (seen_by d first old.around) (seen_by d first new.around) ran.found ran.left ran.is_found ran.is_left calm)
      one (ap (λ (y : State). is_running y.status) t.is_last ∙ over) (limit scheme) ran.seen ran.seen.why refl in
      ends_same last r.run.status new.status
      (status_by c d x first scheme old new events r (sent_calm r.failed _ old.around.report new.around.report report r.lines))
      (subst (λ (y : State). HasEndOf y r.run) t.is_last holds_files)

  -- runs in which nothing failed
  ends_runs : (first : Bool) (schemes : List SchemeName) (old new : Stage N) (events : List Event) → old.around.shelf ≡ stock
      → Stayed (d.device old.around.nvm).faults (d.device new.around.nvm).faults
      → Stayed old.around.terminal.faults new.around.terminal.faults
      → Stayed old.around.report.faults new.around.report.faults → (schemes ≡ [] → EndsAs last old.status)
      → RunsThrough c d x first schemes old new events → EndsAs last new.status
  ends_runs first [] old new events is_stock device terminal report before (same, none) =
      ends_same last old.status new.status (ap (λ (y : Stage N). y.status) same) (before refl)
  ends_runs first (scheme ∷ schemes) old new events is_stock device terminal report before (inl ends) =
      inr (ends.status ∙ before_due d old.around.nvm new.around.nvm ends.why device ends.due)
  ends_runs first (scheme ∷ schemes) old new events is_stock device terminal report before (inr (middle, own, rest, run, parts, others)) =
      by_low (nat_le middle.status 1) refl (ends_runs false schemes middle new rest) others
    where
      by_low : (low : Bool) → nat_le middle.status 1 ≡ low
          → (middle.around.shelf ≡ stock → Stayed (d.device middle.around.nvm).faults (d.device new.around.nvm).faults
          → Stayed middle.around.terminal.faults new.around.terminal.faults
          → Stayed middle.around.report.faults new.around.report.faults → (schemes ≡ [] → EndsAs last middle.status)
          → RunsThrough c d x false schemes middle new rest → EndsAs last new.status)
          → MatchBool low (RunsThrough c d x false schemes middle new rest) ((new ≡ middle) × (rest ≡ [])) → EndsAs last new.status
      by_low false is go (same, none) =
          ends_same last middle.status new.status (ap (λ (y : Stage N). y.status) same)
          (ends_run first scheme old middle own is_stock
          (subst (λ (y : Stage N). Stayed (d.device old.around.nvm).faults (d.device y.around.nvm).faults) same device)
          (subst (λ (y : Stage N). Stayed old.around.terminal.faults y.around.terminal.faults) same terminal)
          (subst (λ (y : Stage N). Stayed old.around.report.faults y.around.report.faults) same report) run)
      by_low true is go more =
          let stays : StaysOver d old.around middle.around = stays_low c d x first scheme old middle own run (leb-true middle.status 1 is) in
          let reported : EndsAs last middle.status =
          ends_run first scheme old middle own is_stock
          (record { same = stays.device; counts = device.counts }) (record { same = stays.terminal; counts = terminal.counts })
          (record { same = stays.report; counts = report.counts }) run in
          go (shelf_stays c d x first scheme old middle own run ∙ is_stock)
          (record { same = device.same ∙ sym stays.device; counts = omega (arith, stays.device, device.counts) })
          (record { same = terminal.same ∙ sym stays.terminal; counts = omega (arith, stays.terminal, terminal.counts) })
          (record { same = report.same ∙ sym stays.report; counts = omega (arith, stays.report, report.counts) })
          (λ e. reported) more

-- a comparison in which nothing failed reports the program's own end
pub compare_completes : {N : Type 0} (c : Choice) (d : NvmOf N) (name : List ℕ) (job : Job) (before after : Around N) (a : Answer)
    (s : Stands (file name) job before.shelf) (k : ℕ) → IsCalm (outside_of d before) (outside_of d after) → job.config.harts ≡ 1
    → is_running (left_alone s.program k).status ≡ false
    → ((scheme : SchemeName) → cycles_for (c scheme).kind (parameters_of (under scheme job).config) job.config.cuts k
    ≤ job.config.limit)
    → CompareAnswered c d name job before after a → HasEndOf (left_alone s.program k) a
compare_completes c d name job before after a s k faults one over limit (inl (r, due, nvm, refused)) =
    inr (refused.status ∙ program_due (file name) job before.shelf after.shelf r s faults.shelf due)
compare_completes {N = N} c d name job before after a s k faults one over limit (inr h) =
    ends_same (left_alone s.program k) h.last.status a.status h.status
    (ends_runs c d name job h.program.bytes h.program.input before.shelf s k faults.shelf.counts one over limit true compared
    (first_stage before) h.last (all_of a.events) refl
    (subst (λ (y : Around N). Stayed (d.device before.nvm).faults (d.device y.nvm).faults) (sym h.left) faults.device)
    (subst (λ (y : Around N). Stayed before.terminal.faults y.terminal.faults) (sym h.left) faults.terminal)
    (subst (λ (y : Around N). Stayed before.report.faults y.report.faults) (sym h.left) faults.report)
    (λ e. absurd (cc)) h.runs)
