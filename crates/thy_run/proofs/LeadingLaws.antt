-- The turns that a cycle's events report reach the states of their checkpoints, and so its events are lawful.
use Rattle.std.proofs.Common.{◌≡◌, ◌≢◌, ℕ, ◌+◌, ◌-◌, ◌≤◌, Bool, true, false, if◌then◌else◌, Option, Some, None, List, [], ◌∷◌, ◌++◌, length, drop, refl, sym, ◌∙◌, ap, subst, inl, inr, arith}
use Rattle.thy_block.specs.declared.cause.EndCause.{EndCause}
use Rattle.thy_block.specs.declared.cause.EndCause.TheVariants.{Length, Exhausted, Ended as EndedCause}
use Rattle.thy_block.specs.declared.mark.Mark.{Mark}
use Rattle.thy_block.specs.Marks.{mark}
use Rattle.thy_block.proofs.BasicLemmas.{some_same}
use Rattle.thy_isa.specs.Step.{State, is_running}
use Rattle.thy_text.specs.Event.{Event, Ended}
use Rattle.thy_text.specs.Marks.{Marks, loading_marks, marks_from, turns_of, turns_listed, FitsCause, EndsEpoch, AllLawful}
use Rattle.thy_text.proofs.Histories.{marks_from-append, AllLawful-append}
use Rattle.thy_computer.specs.declared.did.Did.{Did}
use Rattle.thy_computer.specs.declared.did.Did.TheVariants.{Boot, Loaded, Restarted, Refused, Moved, Retired, Flushed, Merged, Sealed, Promoted, Engine, Committed, NvmDrained, DramDrained, Nothing}
use Rattle.thy_computer.specs.declared.view.Phase.{Phase}
use Rattle.thy_computer.specs.declared.view.Phase.TheVariants.{Boot as BootPhase, Run, Halt}
use Rattle.thy_computer.specs.declared.view.View.{View}
use Rattle.thy_computer.specs.CoreStep.{CoreStep}
use Rattle.thy_computer.specs.Origin.{Origin, at, runs_at}
use Rattle.thy_computer.specs.Pace.{retires}
use Rattle.thy_computer.specs.WithTurns.{with_turns, count_of}
use Rattle.thy_computer.specs.Views.{halts}
use Rattle.thy_computer.proofs.ReachLaws.{reach-count, runs_behind, runs_or_halts}
use Rattle.thy_run.specs.Going.{HasItsTurns}
use Rattle.thy_run.specs.Laws.{course_of}
use Rattle.thy_run.specs.World.{turns_behind, did_events, reload_events, end_events, events_of}
use Rattle.thy_run.proofs.EventLaws.{halts-view, Reloads-reported, marks-events}
use Rattle.thy_run.proofs.Fitting.{OverFits, IsEither, BootFits, Follows, RunFits, HaltFits, FitsIn, Fits}
use Rattle.thy_run.proofs.FittingLaws.{Fits-reported}
use Rattle.thy_run.proofs.ImageLaws.{Stays, Stays-quiet}
use Rattle.thy_run.proofs.Leading.{LeadsTo, LeadsIn, Leads, length-behind, start_leads, state_there, leads_joined}

-- ---- phases

-- after the boot, with none sealed, nothing more is to be reached
none_sealed : (p : Origin) (v : View) (m : Marks) (ph : Phase) → ph ≢ BootPhase → m.sealed ≡ None → LeadsIn p v m ph
none_sealed p v m BootPhase behind none = absurd (behind refl)
none_sealed p v m Run behind none = λ s is. absurd (let both : None ≡ Some s = sym none ∙ is in cc)
none_sealed p v m Halt behind none = λ s is. absurd (let both : None ≡ Some s = sym none ∙ is in cc)

in_stays : (p : Origin) (v next : View) (m : Marks) (ph : Phase) → next.done ≡ v.done → LeadsIn p v m ph → LeadsIn p next m ph
in_stays p v next m BootPhase done f = λ k is. f k (sym done ∙ is)
in_stays p v next m Run done f = f
in_stays p v next m Halt done f = f

leads_stays : (p : Origin) (v next : View) (m : Marks) → Stays v next → Leads p v m → Leads p next m
leads_stays p v next m s l = record {
  kept = l.kept;
  other = subst (LeadsIn p next m) (sym s.phase) (in_stays p v next m v.phase s.done l.other);
}

-- if the program is loaded, none reach the start, which is sealed
loading_leads : (p : Origin) (k : Mark) → (loading_marks p.start.count).sealed ≡ Some k
    → LeadsTo p (loading_marks p.start.count).sealed_turns k.count
loading_leads p k is = subst (λ (x : Mark). LeadsTo p [] x.count) (some_same (mark 0 p.start.count) k is) (start_leads p)

module _ (p : Origin) (v next : View) (m : Marks) (h : Fits p v m) (l : Leads p v m) where
  of_phase : (ph : Phase) → v.phase ≡ ph → FitsIn p v m ph
  of_phase ph is = subst (FitsIn p v m) is h

  led : (ph : Phase) → v.phase ≡ ph → LeadsIn p v m ph
  led ph is = subst (LeadsIn p v m) is l.other

  is_loading : v.phase ≡ BootPhase → v.done ≡ None → m ≡ loading_marks p.start.count
  is_loading boots none =
      let f : BootFits p v m = of_phase BootPhase boots in
      elim f.boots as (λ _. m ≡ loading_marks p.start.count) [
        | inl loading ↦ loading.marks
        | inr r ↦ absurd (let both : None ≡ Some r.mark = sym none ∙ r.done in cc)
      ]

  is_either : v.phase ≡ BootPhase → (k : Mark) → v.done ≡ Some k → IsEither m.kept m.sealed k
  is_either boots k done =
      let f : BootFits p v m = of_phase BootPhase boots in
      elim f.boots as (λ _. IsEither m.kept m.sealed k) [
        | inl loading ↦ absurd (let both : None ≡ Some k = sym loading.done ∙ done in cc)
        | inr r ↦ subst (IsEither m.kept m.sealed) (some_same r.mark k (sym r.done ∙ done)) r.either
      ]

  -- ---- an epoch's end

  module _ (epoch count : ℕ) (cause : EndCause) (s : CoreStep p v (Sealed epoch count cause) next) (all : HasItsTurns p v) where
    runs : RunFits p v m
    runs = of_phase Run s.phase

    since : v.count ≡ runs.mark.count + v.retired
    since = let f : Follows p v runs.mark None = subst (Follows p v runs.mark) s.unsealed runs.follows in f.2

    all_here : length p.turns ≡ turns_listed p.geometry.harts (count - p.start.count)
    all_here = all ∙ ap (λ (n : ℕ). turns_listed p.geometry.harts (n - p.start.count)) (reach-count v (runs_behind v.phase s.phase) ∙ sym s.at_count)

    behind_is : turns_behind p v.done ≡ drop (runs.mark.count - p.start.count) p.turns
    behind_is = ap (λ (d : Option Mark). drop (count_of d - p.start.count) p.turns) runs.done

    up_to : runs.mark.count ≤ count
    up_to = omega (arith, since, s.at_count)

    -- the turns up to the epoch's end
    leads_here : LeadsTo p (m.kept_turns ++ turns_behind p v.done) count
    leads_here =
        subst (λ (t : List ℕ). LeadsTo p (m.kept_turns ++ t) count) (sym behind_is)
        (leads_joined p m.kept_turns runs.mark.count count up_to all_here (l.kept runs.mark runs.kept))

    runs_there : is_running (at (with_turns p (m.kept_turns ++ turns_behind p v.done)) count).status ≡ runs_at p v.count
    runs_there =
        ap (λ (t : State). is_running t.status) (state_there p (m.kept_turns ++ turns_behind p v.done) count leads_here)
        ∙ ap (runs_at p) s.at_count

    for_cause : (c : EndCause) → OverFits p v.retired v.count (Some c)
        → FitsCause (course_of p) runs.mark.count count (m.kept_turns ++ turns_behind p v.done) c
    for_cause EndedCause fits = runs_there ∙ fits
    for_cause Length fits = (runs_there ∙ fits.0, (let own = fits.1 in omega (arith, since, s.at_count, own)))
    for_cause (Exhausted free dirty need) fits = (
      runs_there ∙ fits.0,
      λ same. absurd (let less = fits.1 in omega (arith, since, s.at_count, less, same)),
      fits.2.short,
      fits.2.some,
      fits.2.most,
    )

    ends : EndsEpoch (course_of p) m epoch count cause (turns_behind p v.done)
    ends =
        let f : Follows p v runs.mark None = subst (Follows p v runs.mark) s.unsealed runs.follows in
        record {
          before = runs.mark.epoch;
          last = runs.mark.count;
          follows = s.of_epoch ∙ f.1;
          kept = runs.kept;
          alone = runs.sealed ∙ s.unsealed;
          from = up_to;
          to = let few = runs.few in omega (arith, since, s.at_count, few);
          each = ap (λ (t : List ℕ). length t) behind_is
              ∙ length-behind p.geometry.harts p.turns p.start.count runs.mark.count count (l.kept runs.mark runs.kept).late up_to all_here;
          fits = for_cause cause (subst (OverFits p v.retired v.count) s.over runs.over);
        }

  -- ---- what was done

  -- the events of what was done are lawful
  pub Lawful-reported : (did : Did) (cycle : ℕ) → (retires did ≡ 0 → HasItsTurns p v) → CoreStep p v did next
      → AllLawful (course_of p) m (did_events p v did cycle)
  Lawful-reported Boot cycle all s = tt
  Lawful-reported Loaded cycle all s = ((p.start.count, ap (λ (x : Marks). x.sealed) (is_loading s.phase s.none)), tt)
  Lawful-reported (Restarted epoch count) cycle all s = (
    record {
      marked = is_either s.phase (mark epoch count) s.done;
      whole = sym (state_there p (turns_of m epoch count) count (led BootPhase s.phase (mark epoch count) s.done));
    },
    tt,
  )
  Lawful-reported (Refused bad) cycle all s = tt
  Lawful-reported Moved cycle all s = tt
  Lawful-reported (Retired hart) cycle all s = tt
  Lawful-reported Flushed cycle all s = tt
  Lawful-reported Merged cycle all s = tt
  Lawful-reported Promoted cycle all s = tt
  Lawful-reported (Sealed epoch count cause) cycle all s = (ends epoch count cause s (all refl), tt)
  Lawful-reported (Engine step) cycle all s = tt
  Lawful-reported (Committed epoch overlapped) cycle all s =
      let f : RunFits p v m = of_phase Run s.phase in
      ((s.count, f.sealed ∙ s.sealed), tt)
  Lawful-reported NvmDrained cycle all s = tt
  Lawful-reported DramDrained cycle all s = tt
  Lawful-reported Nothing cycle all s = tt

  quiet : (did : Did) (cycle : ℕ) → did_events p v did cycle ≡ [] → CoreStep p v did next
      → Leads p next (marks_from p.start.count m (did_events p v did cycle))
  quiet did cycle none s =
      subst (λ (vs : List Event). Leads p next (marks_from p.start.count m vs)) (sym none)
      (leads_stays p v next m (Stays-quiet p v next did cycle s none) l)

  -- what a step reports leaves turns that lead to the marks
  pub Leads-reported : (did : Did) (cycle : ℕ) → (retires did ≡ 0 → HasItsTurns p v) → CoreStep p v did next
      → Leads p next (marks_from p.start.count m (did_events p v did cycle))
  Leads-reported Boot cycle all s = quiet Boot cycle refl s
  Leads-reported Loaded cycle all s =
      let is : m ≡ loading_marks p.start.count = is_loading s.phase s.none in
      record {
        kept = subst (λ (x : Marks). (k : Mark) → x.sealed ≡ Some k → LeadsTo p x.sealed_turns k.count) (sym is) (loading_leads p);
        other = none_sealed p next (marks_from p.start.count m (did_events p v Loaded cycle)) next.phase
            (runs_behind next.phase (ap (λ (w : View). w.phase) s.becomes)) refl;
      }
  Leads-reported (Restarted epoch count) cycle all s = record {
    kept = λ k is.
        let same : mark epoch count ≡ k = some_same (mark epoch count) k is in
        subst (λ (x : Mark). LeadsTo p (turns_of m epoch count) x.count) same (led BootPhase s.phase (mark epoch count) s.done);
    other = none_sealed p next (marks_from p.start.count m (did_events p v (Restarted epoch count) cycle)) next.phase
        (λ boots. runs_or_halts (runs_at p count) (sym (ap (λ (w : View). w.phase) s.becomes) ∙ boots)) refl;
  }
  Leads-reported (Refused bad) cycle all s = quiet (Refused bad) cycle refl s
  Leads-reported Moved cycle all s = quiet Moved cycle refl s
  Leads-reported (Retired hart) cycle all s = quiet (Retired hart) cycle refl s
  Leads-reported Flushed cycle all s = quiet Flushed cycle refl s
  Leads-reported Merged cycle all s = quiet Merged cycle refl s
  Leads-reported Promoted cycle all s = quiet Promoted cycle refl s
  Leads-reported (Sealed epoch count cause) cycle all s =
      let now : Marks = marks_from p.start.count m (did_events p v (Sealed epoch count cause) cycle) in
      let there : LeadsTo p (m.kept_turns ++ turns_behind p v.done) count = leads_here epoch count cause s (all refl) in
      record {
        kept = l.kept;
        other = subst (LeadsIn p next now) (sym (ap (λ (w : View). w.phase) s.becomes ∙ s.phase))
            (λ k is. subst (λ (x : Mark). LeadsTo p (m.kept_turns ++ turns_behind p v.done) x.count) (some_same (mark epoch count) k is) there);
      }
  Leads-reported (Engine step) cycle all s = quiet (Engine step) cycle refl s
  Leads-reported (Committed epoch overlapped) cycle all s = record {
    kept = led Run s.phase;
    other = none_sealed p next (marks_from p.start.count m (did_events p v (Committed epoch overlapped) cycle)) next.phase
        (λ boots. runs_or_halts (runs_at p s.count) (sym (ap (λ (w : View). w.phase) s.becomes) ∙ boots)) refl;
  }
  Leads-reported NvmDrained cycle all s = quiet NvmDrained cycle refl s
  Leads-reported DramDrained cycle all s = quiet DramDrained cycle refl s
  Leads-reported Nothing cycle all s = quiet Nothing cycle refl s

-- ---- all events of a cycle

-- the end of a run
end_lawful : (p : Origin) (v next : View) (m : Marks) (cycle : ℕ) → Fits p next m → Leads p next m → (b : Bool) → halts v next ≡ b
    → AllLawful (course_of p) m (if b then Ended (at p next.count).status next.count cycle (at p next.count) ∷ [] else [])
end_lawful p v next m cycle h l false is = tt
end_lawful p v next m cycle h l true is =
    let f : HaltFits p next m = subst (FitsIn p next m) (halts-view v next is) h in
    let kept : m.kept ≡ Some (mark f.mark.epoch next.count) = f.kept ∙ ap (λ c. Some (mark f.mark.epoch c)) (sym f.count) in
    let there : LeadsTo p m.kept_turns next.count = l.kept (mark f.mark.epoch next.count) kept in
    ((record { epoch = f.mark.epoch; kept = kept; whole = sym (state_there p m.kept_turns next.count there); over = f.over }, refl), tt)

module _ (p : Origin) (v next : View) (m : Marks) (did : Did) (fresh : Bool) (cycle : ℕ) (least : 1 ≤ p.geometry.epoch) (h : Fits p v m)
    (l : Leads p v m)
    (all : retires did ≡ 0 → HasItsTurns p v) (s : CoreStep p v did next) where
  pub Leads-events : Leads p next (marks_from p.start.count m (events_of p fresh v did next cycle))
  Leads-events = subst (Leads p next) (sym (marks-events p v next m did fresh cycle least h s)) (Leads-reported p v next m h l did cycle all s)

  pub Lawful-events : AllLawful (course_of p) m (events_of p fresh v did next cycle)
  Lawful-events =
      let reload : List Event = reload_events fresh next in
      let step : List Event = did_events p v did cycle in
      let end : List Event = end_events p v next cycle in
      let start : ℕ = p.start.count in
      let reloads = Reloads-reported p v next m did fresh least h s in
      let after_step : marks_from start m (reload ++ step) ≡ marks_from start m step =
      marks_from-append start m reload step ∙ ap (λ n. marks_from start n step) reloads.marks in
      let lawful_step : AllLawful (course_of p) m (reload ++ step)
      = AllLawful-append (course_of p) m reload step reloads.lawful
      (subst (λ n. AllLawful (course_of p) n step) (sym reloads.marks) (Lawful-reported p v next m h l did cycle all s)) in
      let fits_step : Fits p next (marks_from start m (reload ++ step)) =
      subst (Fits p next) (sym after_step) (Fits-reported p v next m least h did cycle s) in
      let leads_step : Leads p next (marks_from start m (reload ++ step)) =
      subst (Leads p next) (sym after_step) (Leads-reported p v next m h l did cycle all s) in
      AllLawful-append (course_of p) m (reload ++ step) end lawful_step
      (end_lawful p v next (marks_from start m (reload ++ step)) cycle fits_step leads_step (halts v next) refl)
