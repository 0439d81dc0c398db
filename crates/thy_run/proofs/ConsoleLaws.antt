-- What the terminal has grows by what each cycle's end releases.
use Rattle.std.proofs.Common.{◌≡◌, ℕ, ◌+◌, ◌^◌, ◌<◌, ◌≤◌, Bool, true, false, if◌then◌else◌, Option, Some, None, List, [], ◌∷◌, ◌++◌, length, drop, refl, sym, ◌∙◌, ap, subst, inl, inr, append_assoc, append-nil, arith, ◌||◌, ◌&&◌}
use Rattle.std.specs.List.{list_any}
use Rattle.std.proofs.lemmas.List.Folds.{list_any-append}
use Rattle.std.proofs.Math.Seq.{drop-append_seam}
use Rattle.thy_block.specs.declared.mark.Mark.{Mark}
use Rattle.thy_isa.specs.Step.{State}
use Rattle.thy_isa.proofs.StorableLaws.{step-console, step-room}
use Rattle.thy_computer.specs.WithTurns.{with_turns}
use Rattle.thy_computer.proofs.TurnLaws.{at-keeps, at-holds, IsOrigin-with_turns}
use Rattle.thy_computer.specs.Kind.{KindOf}
use Rattle.thy_text.specs.Event.{Event, Cut, Reload, Ended}
use Rattle.thy_text.specs.Marks.{Marks, marks_from}
use Rattle.thy_text.specs.Released.{shows, console_of, console_kept}
use Rattle.thy_text.proofs.Histories.{marks_from-append}
use Rattle.thy_computer.specs.declared.did.Did.{Did}
use Rattle.thy_computer.specs.declared.did.Did.TheVariants.{Boot, Loaded, Restarted, Refused, Moved, Retired, Flushed, Merged, Sealed, Promoted, Engine, Committed, NvmDrained, DramDrained, Nothing}
use Rattle.thy_computer.specs.declared.view.Phase.TheVariants.{Boot as BootPhase}
use Rattle.thy_computer.specs.declared.view.View.{View}
use Rattle.thy_block.specs.Marks.{mark}
use Rattle.thy_computer.specs.Views.{loads, halts}
use Rattle.thy_computer.specs.CoreStep.{CoreStep}
use Rattle.thy_computer.specs.Origin.{Origin, at, setting_of, IsOrigin}
use Rattle.thy_run.specs.Due.{console_at, console_shown, shows_console, due_of}
use Rattle.thy_run.specs.Laws.{first_marks, marks_of, released_of}
use Rattle.thy_run.specs.World.{World, line, seen, did_events, reload_events, end_events, events_of, TakesStep}
use Rattle.thy_run.proofs.CoverLaws.{Covers-sealed, marks-part}
use Rattle.thy_run.proofs.Fitting.{BootFits, RunFits, FitsIn, Fits}
use Rattle.thy_run.proofs.EventLaws.{marks-events}
use Rattle.thy_run.proofs.CutLaws.{Rises-fits}
use Rattle.thy_run.proofs.Leading.{LeadsTo, Leads, state_there}
use Rattle.thy_run.proofs.LeadingLaws.{Leads-reported}
use Rattle.thy_run.proofs.StepAlong.{core_of, events_of_step}
use Rattle.thy_run.proofs.WorldLaws.{Coheres, fits_before, leads_before, reported_before, Coheres-stepped}
use Rattle.thy_block.proofs.RangeLemmas.{console_most}
use Rattle.thy_block.proofs.BasicLemmas.{some_same, or_false}

-- ---- the console of the plain machine

-- the console of the plain machine only grows
pub console-grows : (o : Origin) (j k : ℕ) → j ≤ k → (more : List ℕ) × (console_at o k ≡ console_at o j ++ more)
console-grows o j k le =
    let Grown : State → Type 0 = λ t. (more : List ℕ) × (t.console ≡ console_at o j ++ more) in
    at-keeps Grown o (record {
      steps = λ s p.
          let grown = step-console (setting_of o) s in
          (p.0 ++ grown.more, grown.grown ∙ ap (λ (l : List ℕ). l ++ grown.more) p.1 ∙ append_assoc (console_at o j) p.0 grown.more);
      crosses = λ s p. p;
    })
    j k le ([], sym (append-nil (console_at o j)))

-- a committed mark does not go back
abbrev pub Grows : Option Mark → Option Mark → Type 0
Grows a b = (k : Mark) → a ≡ Some k → (later : Mark) × (b ≡ Some later) × (k.count ≤ later.count)

grows_same : (a b : Option Mark) → b ≡ a → Grows a b
grows_same a b e = λ k some. (k, e ∙ some, omega arith)

grows_none : (a b : Option Mark) → a ≡ None → Grows a b
grows_none a b none = λ k some. absurd (cc)

-- the console that is released grows
pub grown : (o : Origin) (a b : Option Mark) → Grows a b
    → console_shown o b ≡ console_shown o a ++ drop (length (console_shown o a)) (console_shown o b)
grown o None b g = refl
grown o (Some k) b g =
    let later = g k refl in
    let more = console-grows o k.count later.0.count later.2 in
    let is : console_shown o b ≡ console_at o k.count ++ more.0 = ap (console_shown o) later.1 ∙ more.1 in
    is ∙ ap (λ (l : List ℕ). console_at o k.count ++ l)
    (sym (ap (drop (length (console_at o k.count))) is ∙ drop-append_seam (console_at o k.count) more.0))

-- ---- what was done

module _ (o : Origin) (v next : View) (m : Marks) (h : Fits o v m) where
  -- the marks that a step's event leaves keep the committed one, or a later one
  pub Grows-reported : (did : Did) (cycle : ℕ) → CoreStep o v did next
      → Grows m.kept (marks_from o.start.count m (did_events o v did cycle)).kept
  Grows-reported Boot cycle s = grows_same m.kept m.kept refl
  Grows-reported Loaded cycle s = grows_none m.kept m.sealed ((Covers-sealed o v m h).nothing s.none)
  Grows-reported (Restarted epoch count) cycle s = λ k kept.
      elim ((Covers-sealed o v m h).of_done (mark epoch count) s.done)
      as (λ _. (later : Mark) × (Some (mark epoch count) ≡ Some later) × (k.count ≤ later.count)) [
        | inl same ↦ (mark epoch count, refl, (let e : k ≡ mark epoch count = some_same k (mark epoch count) (sym kept ∙ same) in let c : k.count ≡ count = ap (λ (x : Mark). x.count) e in omega arith))
        | inr sealed ↦ (mark epoch count, refl, Rises-fits o v m h k (mark epoch count) kept sealed)
      ]
  Grows-reported (Refused bad) cycle s = grows_same m.kept m.kept refl
  Grows-reported Moved cycle s = grows_same m.kept m.kept refl
  Grows-reported (Retired hart) cycle s = grows_same m.kept m.kept refl
  Grows-reported Flushed cycle s = grows_same m.kept m.kept refl
  Grows-reported Merged cycle s = grows_same m.kept m.kept refl
  Grows-reported Promoted cycle s = grows_same m.kept m.kept refl
  Grows-reported (Sealed epoch count cause) cycle s = grows_same m.kept m.kept refl
  Grows-reported (Engine step) cycle s = grows_same m.kept m.kept refl
  Grows-reported (Committed epoch overlapped) cycle s = λ k kept.
      let f : RunFits o v m = subst (FitsIn o v m) s.phase h in
      let sealed : m.sealed ≡ Some (mark epoch s.count) = f.sealed ∙ s.sealed in
      (mark epoch s.count, sealed, Rises-fits o v m h k (mark epoch s.count) kept sealed)
  Grows-reported NvmDrained cycle s = grows_same m.kept m.kept refl
  Grows-reported DramDrained cycle s = grows_same m.kept m.kept refl
  Grows-reported Nothing cycle s = grows_same m.kept m.kept refl

  loading_sealed : v.done ≡ None → v.phase ≡ BootPhase → m.sealed ≡ v.sealed
  loading_sealed none boot =
      let f : BootFits o v m = subst (FitsIn o v m) boot h in
      elim f.boots as (λ _. m.sealed ≡ v.sealed) [
        | inl l ↦ ap (λ (x : Marks). x.sealed) l.marks ∙ sym l.sealed
        | inr r ↦ absurd (let some : v.done ≡ Some r.mark = r.done in cc)
      ]

  -- after what shows a console the committed mark is the view's, after anything else it is the one before
  pub kept-reported : (did : Did) (cycle : ℕ) → CoreStep o v did next
      → (marks_from o.start.count m (did_events o v did cycle)).kept ≡ (if shows_console did then next.done else m.kept)
  kept-reported Boot cycle s = refl
  kept-reported Loaded cycle s = loading_sealed s.none s.phase ∙ sym (ap (λ w. w.done) s.becomes)
  kept-reported (Restarted epoch count) cycle s = sym s.done ∙ sym (ap (λ w. w.done) s.becomes)
  kept-reported (Refused bad) cycle s = refl
  kept-reported Moved cycle s = refl
  kept-reported (Retired hart) cycle s = refl
  kept-reported Flushed cycle s = refl
  kept-reported Merged cycle s = refl
  kept-reported Promoted cycle s = refl
  kept-reported (Sealed epoch count cause) cycle s = refl
  kept-reported (Engine step) cycle s = refl
  kept-reported (Committed epoch overlapped) cycle s =
      let f : RunFits o v m = subst (FitsIn o v m) s.phase h in
      f.sealed ∙ sym (ap (λ w. w.done) s.becomes)
  kept-reported NvmDrained cycle s = refl
  kept-reported DramDrained cycle s = refl
  kept-reported Nothing cycle s = refl

-- ---- what is released

-- the mark whose console is released: the committed one, once an event has reported one
abbrev pub mark_if : Bool → Option Mark → Option Mark
mark_if shown kept = if shown then kept else None

abbrev pub shown_of : Origin → List Event → Option Mark
shown_of o events = mark_if (list_any shows events) (marks_of o events).kept

-- the console at each count, to which turns lead
abbrev console_by : Origin → ℕ → List ℕ → List ℕ
console_by o k turns = (at (with_turns o turns) k).console

-- the console of a mark is the run's own if the mark's turns reach it
of_mark : (o : Origin) (t turns : List ℕ) (kept : Option Mark) → ((k : Mark) → kept ≡ Some k → LeadsTo (with_turns o t) turns k.count)
    → console_of (console_by o) kept turns ≡ console_shown (with_turns o t) kept
of_mark o t turns None leads = refl
of_mark o t turns (Some k) leads = ap (λ (x : State). x.console) (state_there (with_turns o t) turns k.count (leads k refl))

released_if : (o : Origin) (t : List ℕ) (b : Bool) (m : Marks)
    → ((k : Mark) → m.kept ≡ Some k → LeadsTo (with_turns o t) m.kept_turns k.count)
    → (if b then console_kept (console_by o) m else []) ≡ console_shown (with_turns o t) (mark_if b m.kept)
released_if o t true m leads = of_mark o t m.kept_turns m.kept leads
released_if o t false m leads = refl

released_marks : (o : Origin) (t : List ℕ) (events : List Event)
    → ((k : Mark) → (marks_of o events).kept ≡ Some k → LeadsTo (with_turns o t) (marks_of o events).kept_turns k.count)
    → released_of o events ≡ console_shown (with_turns o t) (shown_of o events)
released_marks o t events leads = released_if o t (list_any shows events) (marks_of o events) leads

-- what was shown stays shown
grows_if : (a b : Bool) (kept later : Option Mark) → (a ≡ true → b ≡ true) → Grows kept later → Grows (mark_if a kept) (mark_if b later)
grows_if true true kept later h g = g
grows_if true false kept later h g = absurd (let no : false ≡ true = h refl in cc)
grows_if false b kept later h g = grows_none None (mark_if b later) refl

shown_on : (o : Origin) (vs ws : List Event) → list_any shows vs ≡ true → list_any shows (vs ++ ws) ≡ true
shown_on o vs ws is = list_any-append shows vs ws ∙ ap (λ b. b || list_any shows ws) is

-- which events of a step show a console
report_shows : (o : Origin) (v : View) (did : Did) (cycle : ℕ) → list_any shows (did_events o v did cycle) ≡ shows_console did
report_shows o v Boot cycle = refl
report_shows o v Loaded cycle = refl
report_shows o v (Restarted epoch count) cycle = refl
report_shows o v (Refused bad) cycle = refl
report_shows o v Moved cycle = refl
report_shows o v (Retired hart) cycle = refl
report_shows o v Flushed cycle = refl
report_shows o v Merged cycle = refl
report_shows o v Promoted cycle = refl
report_shows o v (Sealed epoch count cause) cycle = refl
report_shows o v (Engine step) cycle = refl
report_shows o v (Committed epoch overlapped) cycle = refl
report_shows o v NvmDrained cycle = refl
report_shows o v DramDrained cycle = refl
report_shows o v Nothing cycle = refl

reload_shows : (b : Bool) → list_any shows (if b then Reload ∷ [] else []) ≡ false
reload_shows true = refl
reload_shows false = refl

end_shows : (o : Origin) (next : View) (cycle : ℕ) (b : Bool)
    → list_any shows (if b then Ended (at o next.count).status next.count cycle (at o next.count) ∷ [] else []) ≡ false
end_shows o next cycle true = refl
end_shows o next cycle false = refl

events_show : (o : Origin) (fresh : Bool) (v : View) (did : Did) (next : View) (cycle : ℕ)
    → list_any shows (events_of o fresh v did next cycle) ≡ shows_console did
events_show o fresh v did next cycle =
    list_any-append shows (reload_events fresh next ++ did_events o v did cycle) (end_events o v next cycle)
    ∙ ap (λ b. list_any shows (reload_events fresh next ++ did_events o v did cycle) || b) (end_shows o next cycle (halts v next))
    ∙ or_false (list_any shows (reload_events fresh next ++ did_events o v did cycle))
    ∙ list_any-append shows (reload_events fresh next) (did_events o v did cycle)
    ∙ ap (λ b. b || list_any shows (did_events o v did cycle)) (reload_shows (fresh && loads next))
    ∙ report_shows o v did cycle

-- the mark that is shown after a step
mark_next : (w es showing : Bool) (found before later : Option Mark) → es ≡ showing → later ≡ (if showing then found else before)
    → mark_if (w || es) later ≡ (if showing then found else mark_if w before)
mark_next w es true found before later shown is = ap (λ b. mark_if (w || b) later) shown ∙ ap (λ b. mark_if b later) (or_true w) ∙ is
  where
    or_true : (b : Bool) → (b || true) ≡ true
    or_true true = refl
    or_true false = refl
mark_next w es false found before later shown is =
    ap (λ b. mark_if (w || b) later) shown ∙ ap (λ b. mark_if b later) (or_false w) ∙ ap (mark_if w) is

module _ {M : Type 0} (K : KindOf M) (o : Origin) (w next : World M) (least : 1 ≤ o.geometry.epoch) (h : Coheres K o w)
    (step : TakesStep K o w next) where
  core : CoreStep (line o next) (seen K o w) step.r.did (seen K o next)
  core = core_of K o w next step

  fits : Fits (line o next) (seen K o w) (marks_of o w.events)
  fits = fits_before K o w least h next step

  leads : Leads (line o next) (seen K o w) (marks_of o w.events)
  leads = leads_before K o w least h next step

  marks_more : (part : List Event) → marks_of o (w.events ++ part) ≡ marks_from o.start.count (marks_of o w.events) part
  marks_more part = marks_from-append o.start.count (first_marks o) w.events part

  -- the marks after the first of a cycle's events are those before it, or those that what was done leaves
  behind_part : (P : Marks → Type 0) → P (marks_of o w.events)
      → P (marks_from o.start.count (marks_of o w.events) (did_events (line o next) (seen K o w) step.r.did (w.cycles + 1)))
      → (part rest : List Event) → part ++ rest ≡ events_of (line o next) w.fresh (seen K o w) step.r.did (seen K o next) (w.cycles + 1)
      → P (marks_of o (w.events ++ part))
  behind_part P stood done part rest e =
      subst P (sym (marks_more part))
      (elim (marks-part (line o next) (seen K o w) (seen K o next) (marks_of o w.events) step.r.did w.fresh (w.cycles + 1) least fits core part rest e)
      as (λ _. P (marks_from o.start.count (marks_of o w.events) part)) [
        | inl same ↦ subst P (sym same) stood
        | inr all ↦ subst P (sym all) done
      ])

  report_grows : Grows (marks_of o w.events).kept
      (marks_from o.start.count (marks_of o w.events) (did_events (line o next) (seen K o w) step.r.did (w.cycles + 1))).kept
  report_grows = Grows-reported (line o next) (seen K o w) (seen K o next) (marks_of o w.events) fits step.r.did (w.cycles + 1) core

  module _ (part rest : List Event)
      (e : part ++ rest ≡ events_of (line o next) w.fresh (seen K o w) step.r.did (seen K o next) (w.cycles + 1)) where
    part_grows : Grows (marks_of o w.events).kept (marks_of o (w.events ++ part)).kept
    part_grows =
        behind_part (λ (x : Marks). Grows (marks_of o w.events).kept x.kept)
        (grows_same (marks_of o w.events).kept (marks_of o w.events).kept refl) report_grows part rest e

    part_leads : (k : Mark) → (marks_of o (w.events ++ part)).kept ≡ Some k
        → LeadsTo (line o next) (marks_of o (w.events ++ part)).kept_turns k.count
    part_leads =
        behind_part (λ (x : Marks). (k : Mark) → x.kept ≡ Some k → LeadsTo (line o next) x.kept_turns k.count) leads.kept
        (Leads-reported (line o next) (seen K o w) (seen K o next) (marks_of o w.events) fits leads step.r.did (w.cycles + 1)
        (reported_before K o w least h next step) core).kept
        part rest e

    shown_grows : Grows (shown_of o w.events) (shown_of o (w.events ++ part))
    shown_grows =
        grows_if (list_any shows w.events) (list_any shows (w.events ++ part)) (marks_of o w.events).kept (marks_of o (w.events ++ part)).kept
        (shown_on o w.events part) part_grows

  -- what was released before is the console along the turns that are reported after the step
  before : released_of o w.events ≡ console_shown (line o next) (shown_of o w.events)
  before = released_marks o next.turns w.events leads.kept

  -- the first of a cycle's events release more, or nothing
  pub released-part : (part rest : List Event)
      → part ++ rest ≡ events_of (line o next) w.fresh (seen K o w) step.r.did (seen K o next) (w.cycles + 1)
      → (more : List ℕ) × (released_of o (w.events ++ part) ≡ released_of o w.events ++ more)
  released-part part rest e =
      let more : List ℕ = drop (length (console_shown (line o next) (shown_of o w.events)))
      (console_shown (line o next) (shown_of o (w.events ++ part))) in (
        more,
        released_marks o next.turns (w.events ++ part) (part_leads part rest e)
            ∙ grown (line o next) (shown_of o w.events) (shown_of o (w.events ++ part)) (shown_grows part rest e)
            ∙ ap (λ (l : List ℕ). l ++ more) (sym before),
      )

  all_events : next.events ≡ w.events ++ events_of (line o next) w.fresh (seen K o w) step.r.did (seen K o next) (w.cycles + 1)
  all_events = events_of_step K o w next step

  all_kept : (marks_of o next.events).kept ≡ (if shows_console step.r.did then (seen K o next).done else (marks_of o w.events).kept)
  all_kept =
      ap (λ (l : List Event). (marks_of o l).kept) all_events
      ∙ ap (λ (x : Marks). x.kept)
      (marks_more (events_of (line o next) w.fresh (seen K o w) step.r.did (seen K o next) (w.cycles + 1))
      ∙ marks-events (line o next) (seen K o w) (seen K o next) (marks_of o w.events) step.r.did w.fresh (w.cycles + 1) least fits core)
      ∙ kept-reported (line o next) (seen K o w) (seen K o next) (marks_of o w.events) fits step.r.did (w.cycles + 1) core

  all_shown : shown_of o next.events ≡ (if shows_console step.r.did then (seen K o next).done else shown_of o w.events)
  all_shown =
      let es : List Event = events_of (line o next) w.fresh (seen K o w) step.r.did (seen K o next) (w.cycles + 1) in
      ap (λ b. mark_if b (marks_of o next.events).kept) (ap (list_any shows) all_events ∙ list_any-append shows w.events es)
      ∙ mark_next (list_any shows w.events) (list_any shows es) (shows_console step.r.did) (seen K o next).done (marks_of o w.events).kept
      (marks_of o next.events).kept
      (events_show (line o next) w.fresh (seen K o w) step.r.did (seen K o next) (w.cycles + 1)) all_kept

  all_released : released_of o next.events ≡ console_shown (line o next) (shown_of o next.events)
  all_released = released_marks o next.turns next.events (Coheres-stepped K o w least h next step).leads.kept

  by_show : (b : Bool) → shows_console step.r.did ≡ b
      → released_of o next.events ≡ released_of o w.events
      ++ (if b then drop (length (released_of o w.events)) (console_shown (line o next) (seen K o next).done) else [])
  by_show true shows_it =
      let es : List Event = events_of (line o next) w.fresh (seen K o w) step.r.did (seen K o next) (w.cycles + 1) in
      let shown : shown_of o next.events ≡ (seen K o next).done =
      all_shown ∙ ap (λ b. if b then (seen K o next).done else shown_of o w.events) shows_it in
      let grows : Grows (shown_of o w.events) (seen K o next).done =
      subst (Grows (shown_of o w.events)) (sym (ap (shown_of o) all_events) ∙ shown) (shown_grows es [] (append-nil es)) in
      all_released ∙ ap (console_shown (line o next)) shown ∙ grown (line o next) (shown_of o w.events) (seen K o next).done grows
      ∙ ap (λ (l : List ℕ). l ++ drop (length l) (console_shown (line o next) (seen K o next).done)) (sym before)
  by_show false hides =
      let shown : shown_of o next.events ≡ shown_of o w.events =
      all_shown ∙ ap (λ b. if b then (seen K o next).done else shown_of o w.events) hides in
      all_released ∙ ap (console_shown (line o next)) shown ∙ sym before ∙ sym (append-nil (released_of o w.events))

  -- a cycle's events release the bytes that it has to show
  pub released-stepped : released_of o next.events ≡ released_of o w.events ++ due_of (line o next) w.events step.r.did (seen K o next)
  released-stepped = by_show (shows_console step.r.did) refl

-- a cut releases nothing
pub released-cut : (o : Origin) (events : List Event) (index cycle : ℕ)
    → released_of o (events ++ Cut index cycle ∷ []) ≡ released_of o events
released-cut o events index cycle =
    ap (λ b. if b then console_kept (console_by o) (marks_of o (events ++ Cut index cycle ∷ [])) else [])
    (list_any-append shows events (Cut index cycle ∷ []) ∙ or_false (list_any shows events))
    ∙ ap (λ (x : Marks). if list_any shows events then console_kept (console_by o) x else [])
    (marks_from-append o.start.count (first_marks o) events (Cut index cycle ∷ []))

-- ---- how much the console can be

console-few : (o : Origin) (k : ℕ) → IsOrigin o → length (console_at o k) < 2 ^ 64
console-few o k origin =
    let Roomy : State → Type 0 = λ t. length t.console ≤ (setting_of o).room in
    let room : length (console_at o k) ≤ (setting_of o).room =
    at-holds Roomy o (record { steps = λ s h. step-room (setting_of o) s h; crosses = λ s h. h }) origin.recordable.console k in
    omega (arith, room, console_most o.geometry origin.geometry)

mark_few : (o : Origin) (turns : List ℕ) (kept : Option Mark) → IsOrigin o → length (console_of (console_by o) kept turns) < 2 ^ 64
mark_few o turns None origin = omega arith
mark_few o turns (Some m) origin = console-few (with_turns o turns) m.count (IsOrigin-with_turns o turns origin)

few_if : (o : Origin) (b : Bool) (m : Marks) → IsOrigin o → length (if b then console_kept (console_by o) m else []) < 2 ^ 64
few_if o true m origin = mark_few o m.kept_turns m.kept origin
few_if o false m origin = omega arith

-- what is released has a length of 64 bits
pub length-released : (o : Origin) (events : List Event) → IsOrigin o → length (released_of o events) < 2 ^ 64
length-released o events origin = few_if o (list_any shows events) (marks_of o events) origin
