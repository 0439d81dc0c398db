-- A step's events fit the images that the cuts left.
use Rattle.std.proofs.Common.{◌≡◌, ◌⊎◌, ℕ, ◌+◌, ◌<◌, Bool, true, false, ◌&&◌, not, is_none, if◌then◌else◌, Option, Some, None, List, [], ◌∷◌, ◌++◌, refl, sym, ◌∙◌, ap, subst, inl, inr, arith}
use Rattle.std.proofs.lemmas.Bool.{and_parts}
use Rattle.std.specs.Prelude.{◌≢◌}
use Rattle.thy_block.specs.declared.block.Block.{Block}
use Rattle.thy_block.specs.declared.mark.Mark.{Mark}
use Rattle.thy_layout.specs.Decoded.{Decoded, Nothing as NothingLeft, Refused as RefusedImage, At}
use Rattle.thy_text.specs.Event.{Event, Reload, Ended}
use Rattle.thy_computer.specs.declared.did.Did.{Did}
use Rattle.thy_computer.specs.declared.did.Did.TheVariants.{Boot, Loaded, Restarted, Refused, Moved, Retired, Flushed, Merged, Sealed, Promoted, Engine, Committed, NvmDrained, DramDrained, Nothing}
use Rattle.thy_layout.specs.declared.engine_step.EngineStep.{EngineStep}
use Rattle.thy_layout.specs.declared.engine_step.EngineStep.TheVariants.{Idle, Copied, PageBlock, StateBlock, TableBlock, Barrier, CommitWritten, Committed as EngineCommitted}
use Rattle.thy_computer.specs.declared.view.Phase.TheVariants.{Boot as BootPhase}
use Rattle.thy_computer.specs.declared.view.View.{View}
use Rattle.thy_block.specs.Marks.{mark}
use Rattle.thy_block.proofs.BasicLemmas.{some_same}
use Rattle.thy_computer.specs.Views.{is_boot, is_halt, loads, halts}
use Rattle.thy_computer.specs.CoreStep.{busier, BootsTo, MovesTo, EngineTo, CoreStep}
use Rattle.thy_computer.specs.Origin.{Origin, at}
use Rattle.thy_run.specs.Images.{Found, found, HasLeft, AllFit}
use Rattle.thy_run.specs.World.{did_events, reload_events, end_events, events_of}
use Rattle.thy_run.proofs.EventLaws.{reported-booting, loads-view}
use Rattle.thy_run.proofs.ImageLemmas.{AllFit-append}

-- ---- steps that report nothing

-- phase and committed mark stay
pub record Stays (v next : View) : Type 0 where
  pub phase : next.phase ≡ v.phase
  pub done : next.done ≡ v.done

stays_same : (v next : View) → next ≡ v → Stays v next
stays_same v next e = record { phase = ap (λ w. w.phase) e; done = ap (λ w. w.done) e }

stays_boot : (v next : View) → BootsTo v next → Stays v next
stays_boot v next (inl e) = stays_same v next e
stays_boot v next (inr b) = record { phase = ap (λ w. w.phase) b.1; done = ap (λ w. w.done) b.1 }

stays_busy : (v next : View) → next ≡ busier v → Stays v next
stays_busy v next e = record { phase = ap (λ w. w.phase) e; done = ap (λ w. w.done) e }

stays_moved : (v next : View) → MovesTo v next → Stays v next
stays_moved v next (inl e) = stays_busy v next e
stays_moved v next (inr (free, dirty, need, short, e)) = record { phase = ap (λ w. w.phase) e; done = ap (λ w. w.done) e }

stays_engine : (v next : View) (step : EngineStep) → EngineTo step v next → Stays v next
stays_engine v next Idle e = absurd e
stays_engine v next Copied e = stays_busy v next e
stays_engine v next PageBlock e = stays_busy v next e
stays_engine v next StateBlock e = stays_busy v next e
stays_engine v next TableBlock e = stays_busy v next e
stays_engine v next Barrier e = stays_busy v next e
stays_engine v next (EngineCommitted epoch) e = absurd e
stays_engine v next CommitWritten e = record { phase = ap (λ w. w.phase) e.2; done = ap (λ w. w.done) e.2 }

some_event : (v : Event) {A : Type 0} → v ∷ [] ≡ [] → A
some_event v e = absurd (cc)

pub Stays-quiet : (o : Origin) (v next : View) (did : Did) (cycle : ℕ) → CoreStep o v did next → did_events o v did cycle ≡ [] → Stays v next
Stays-quiet o v next Boot cycle s none = stays_boot v next s.1
Stays-quiet o v next Loaded cycle s none = some_event _ none
Stays-quiet o v next (Restarted epoch count) cycle s none = some_event _ none
Stays-quiet o v next (Refused bad) cycle s none = stays_same v next s.3
Stays-quiet o v next Moved cycle s none = stays_moved v next s.3
Stays-quiet o v next (Retired hart) cycle s none = record { phase = ap (λ w. w.phase) s.becomes; done = ap (λ w. w.done) s.becomes }
Stays-quiet o v next Flushed cycle s none = stays_busy v next s.1
Stays-quiet o v next Merged cycle s none = stays_busy v next s.1
Stays-quiet o v next Promoted cycle s none = stays_busy v next s.1
Stays-quiet o v next (Sealed epoch count cause) cycle s none = some_event _ none
Stays-quiet o v next (Engine step) cycle s none = stays_engine v next step s.1
Stays-quiet o v next (Committed epoch overlapped) cycle s none = some_event _ none
Stays-quiet o v next NvmDrained cycle s none = stays_same v next s
Stays-quiet o v next DramDrained cycle s none = stays_same v next s
Stays-quiet o v next Nothing cycle s none = stays_same v next s.1

not_both : (b : Bool) → (not b && b) ≡ false
not_both true = refl
not_both false = refl

-- a step without an event does not halt
halts-quiet : (o : Origin) (v next : View) (did : Did) (cycle : ℕ) → CoreStep o v did next → did_events o v did cycle ≡ []
    → halts v next ≡ false
halts-quiet o v next did cycle s none =
    ap (λ p. not (is_halt v.phase) && is_halt p) (Stays-quiet o v next did cycle s none).phase ∙ not_both (is_halt v.phase)

-- ---- images

-- what a boot's view has to do with the image that it finds
abbrev pub IsFound : Origin → View → Decoded → Type 0
IsFound o v NothingLeft = v.done ≡ None
IsFound o v (RefusedImage bad) = ⊥
IsFound o v (At epoch state) = (v.done ≡ Some (mark epoch state.count)) × (state ≡ at o state.count)

-- between two cycles: what the view has to do with what there is to be found
pub record ImagesFit (o : Origin) (cycles : ℕ) (fresh : Bool) (v : View) (s : Found) : Type 0 where
  pub last : HasLeft cycles s
  pub just : (cycle : ℕ) → s.just ≡ Some cycle → ((fresh ≡ true) × (cycle ≡ cycles)) ⊎ (cycle < cycles)
  pub fresh_boot : fresh ≡ true → (v.phase ≡ BootPhase) × (v.written ≡ false) × (s.just ≡ Some cycles)
  pub boot : v.phase ≡ BootPhase → IsFound o v s.means
  pub up : is_boot v.phase ≡ false → s.just ≡ None

is_at : (epoch count : ℕ) (o : Origin) (d : Decoded) (v : View) → v.done ≡ Some (mark epoch count) → IsFound o v d
    → d ≡ At epoch (at o count)
is_at epoch count o NothingLeft v done h = absurd (cc)
is_at epoch count o (RefusedImage bad) v done h = absurd h
is_at epoch count o (At e state) v done h =
    let same : mark e state.count ≡ mark epoch count = some_same (mark e state.count) (mark epoch count) (sym h.0 ∙ done) in
    ap (λ s. At e s) h.1 ∙ ap (λ (m : Mark). At m.epoch (at o m.count)) same

is_nothing : (o : Origin) (d : Decoded) (v : View) → v.done ≡ None → IsFound o v d → d ≡ NothingLeft
is_nothing o NothingLeft v none h = refl
is_nothing o (RefusedImage bad) v none h = absurd h
is_nothing o (At e state) v none h = absurd (let some : v.done ≡ Some (mark e state.count) = h.0 in cc)

boot_none : (v : View) → v.phase ≡ BootPhase → loads v ≡ false → v.done ≡ None → {A : Type 0} → A
boot_none v boot unloaded none =
    absurd (let loaded : loads v ≡ true = ap (λ p. is_boot p && is_none v.done) boot ∙ ap (λ (d : Option Mark). is_none d) none in cc)

not_found : (o : Origin) (v next : View) (d : Decoded) → next.done ≡ v.done → IsFound o v d → IsFound o next d
not_found o v next NothingLeft same h = same ∙ h
not_found o v next (RefusedImage bad) same h = h
not_found o v next (At epoch state) same h = (same ∙ h.0, h.1)

if_none : {A : Type 0} (b : Bool) (x : List A) → b ≡ false → (if b then x else []) ≡ []
if_none b x e = ap (λ c. if c then x else []) e

-- what a step's events are, as far as images go
data Shape (o : Origin) (v next : View) (did : Did) (fresh : Bool) (cycle : ℕ) (WithTurns : Type 0) : Type 0 where
  -- the file is loaded again
  reloads : (fresh && loads next) ≡ true → events_of o fresh v did next cycle ≡ Reload ∷ [] → Shape o v next did fresh cycle WithTurns
  -- the step has no event
  nothing : (fresh && loads next) ≡ false → did_events o v did cycle ≡ [] → events_of o fresh v did next cycle ≡ []
      → Shape o v next did fresh cycle WithTurns
  -- the step has events
  something : WithTurns → events_of o fresh v did next cycle ≡ did_events o v did cycle ++ end_events o v next cycle
      → Shape o v next did fresh cycle WithTurns

shape_of : (o : Origin) (v next : View) (did : Did) (fresh : Bool) (cycle : ℕ) (WithTurns : Type 0) → CoreStep o v did next
    → (did_events o v did cycle ≡ []) ⊎ WithTurns → Shape o v next did fresh cycle WithTurns
shape_of o v next did fresh cycle WithTurns c reports = by_test (fresh && loads next) refl
  where
    end_none : did_events o v did cycle ≡ [] → end_events o v next cycle ≡ []
    end_none none = if_none (halts v next) (Ended (at o next.count).status next.count cycle (at o next.count) ∷ [])
        (halts-quiet o v next did cycle c none)

    all : (r t e : List Event) → reload_events fresh next ≡ r → did_events o v did cycle ≡ t → end_events o v next cycle ≡ e
        → events_of o fresh v did next cycle ≡ r ++ t ++ e
    all r t e is_r is_t is_e =
        ap (λ (x : List Event). x ++ did_events o v did cycle ++ end_events o v next cycle) is_r
        ∙ ap (λ (x : List Event). r ++ x ++ end_events o v next cycle) is_t
        ∙ ap (λ (x : List Event). r ++ t ++ x) is_e

    by_test : (b : Bool) → (fresh && loads next) ≡ b → Shape o v next did fresh cycle WithTurns
    by_test true is =
        let none = reported-booting o v next did cycle c (loads-view next (and_parts fresh (loads next) is).1).0 in
        reloads is (all (Reload ∷ []) [] [] (ap (λ b. if b then Reload ∷ [] else []) is) none (end_none none))
    by_test false is = elim reports as (λ _. Shape o v next did fresh cycle WithTurns) [
      | inl none ↦ nothing is none (all [] [] [] (if_none (fresh && loads next) (Reload ∷ []) is) none (end_none none))
      | inr fits ↦ something fits
          (all [] (did_events o v did cycle) (end_events o v next cycle) (if_none (fresh && loads next) (Reload ∷ []) is) refl refl)
    ]

module _ (read : List Block → Decoded) (o : Origin) (cycles : ℕ) (fresh : Bool) (v next : View) (s : Found)
    (f : ImagesFit o cycles fresh v s) where
  -- what holds after an event that is not a cut
  abbrev settled : Found
  settled = found s.means None

  -- if nothing is found, some event came since the cut, except for the first cycle after it
  just_since : (fresh ≡ true → ⊥) → s.means ≡ NothingLeft → (d : Option ℕ) → s.just ≡ d → s.just ≡ None
  just_since late none_left None is = is
  just_since late none_left (Some cycle) is = elim (f.just cycle is) as (λ _. s.just ≡ None) [
    | inl now ↦ absurd (late now.0)
    | inr before ↦ absurd (f.last cycle is before none_left)
  ]

  -- what a step did has no event, or one that fits
  abbrev ReportFits : Did → ℕ → Type 0
  ReportFits did cycle = AllFit read (λ t. t ≡ settled) s (did_events o v did cycle) []

  report_fits : (did : Did) (cycle : ℕ) → CoreStep o v did next → (did_events o v did cycle ≡ []) ⊎ ReportFits did cycle
  report_fits Boot cycle c = inl refl
  report_fits Loaded cycle c = inr (
    just_since (λ is. let not_yet : v.written ≡ false = (f.fresh_boot is).1 in let written : v.written ≡ true = c.written in cc)
        (is_nothing o s.means v c.none (f.boot c.phase)) s.just refl,
    (refl, refl),
  )
  report_fits (Restarted epoch count) cycle c = inr (is_at epoch count o s.means v c.done (f.boot c.phase), (refl, refl))
  report_fits (Refused bad) cycle c = inl refl
  report_fits Moved cycle c = inl refl
  report_fits (Retired hart) cycle c = inl refl
  report_fits Flushed cycle c = inl refl
  report_fits Merged cycle c = inl refl
  report_fits Promoted cycle c = inl refl
  report_fits (Sealed epoch count cause) cycle c = inr (f.up (ap is_boot c.phase), (refl, refl))
  report_fits (Engine step) cycle c = inl refl
  report_fits (Committed epoch overlapped) cycle c = inr (f.up (ap is_boot c.phase), (refl, refl))
  report_fits NvmDrained cycle c = inl refl
  report_fits DramDrained cycle c = inl refl
  report_fits Nothing cycle c = inl refl

  module _ (did : Did) (cycle : ℕ) (c : CoreStep o v did next) where
    next_boot : next.phase ≡ BootPhase → IsFound o next s.means
    next_boot boot =
        let stays = Stays-quiet o v next did cycle c (reported-booting o v next did cycle c boot) in
        not_found o v next s.means stays.done (f.boot (sym stays.phase ∙ boot))

    -- after events of which the last is not a cut
    settled_images : ImagesFit o (cycles + 1) false next settled
    settled_images = record {
      last = λ at_cycle e. absurd (cc);
      just = λ at_cycle e. absurd (cc);
      fresh_boot = λ e. absurd (cc);
      boot = next_boot;
      up = λ e. refl;
    }

    -- a cycle without an event fits the images
    quiet_images : (fresh && loads next) ≡ false → did_events o v did cycle ≡ [] → ImagesFit o (cycles + 1) false next s
    quiet_images unless none = record {
      last = λ at_cycle e before. elim (f.just at_cycle e) as (λ _. s.means ≢ NothingLeft) [
        | inl now ↦ λ nothing_there.
            let start = f.fresh_boot now.0 in
            let stays = Stays-quiet o v next did cycle c none in
            let unloaded : loads next ≡ false = ap (λ b. b && loads next) (sym now.0) ∙ unless in
            boot_none next (stays.phase ∙ start.0) unloaded (stays.done ∙ subst (IsFound o v) nothing_there (f.boot start.0))
        | inr late ↦ f.last at_cycle e late
      ];
      just = λ at_cycle e. elim (f.just at_cycle e) as (λ _. (false ≡ true × (at_cycle ≡ cycles + 1)) ⊎ (at_cycle < cycles + 1)) [
        | inl now ↦ inr (omega (arith, now.1))
        | inr late ↦ inr (omega (arith, late))
      ];
      fresh_boot = λ e. absurd (cc);
      boot = next_boot;
      up = λ e. f.up (sym (ap is_boot (Stays-quiet o v next did cycle c none).phase) ∙ e);
    }

    -- the end after an event that is not a cut
    end_fits : (b : Bool)
        → AllFit read (ImagesFit o (cycles + 1) false next) settled
        (if b then Ended (at o next.count).status next.count cycle (at o next.count) ∷ [] else []) []
    end_fits true = (refl, (refl, settled_images))
    end_fits false = (refl, settled_images)

    abbrev Fits : List Event → Type 0
    Fits vs = AllFit read (ImagesFit o (cycles + 1) false next) s vs []

    by_shape : Shape o v next did fresh cycle (ReportFits did cycle) → Fits (events_of o fresh v did next cycle)
    by_shape (reloads test is) =
        let both = and_parts fresh (loads next) test in
        let start = f.fresh_boot both.0 in
        let loading = loads-view next both.1 in
        let stays = Stays-quiet o v next did cycle c (reported-booting o v next did cycle c loading.0) in
        subst Fits (sym is) ((is_nothing o s.means v (sym stays.done ∙ loading.1) (f.boot start.0), (cycles, start.2)), (refl, settled_images))
    by_shape (nothing unless none is) = subst Fits (sym is) (refl, quiet_images unless none)
    by_shape (something fits is) =
        subst Fits (sym is) (AllFit-append read (λ t. t ≡ settled) (ImagesFit o (cycles + 1) false next) s (did_events o v did cycle)
        (end_events o v next cycle) [] []
        (λ t same. subst (λ x. AllFit read (ImagesFit o (cycles + 1) false next) x (end_events o v next cycle) []) (sym same) (end_fits (halts v next))) fits)

    -- a step's events, and what holds after them, fit what a restart can find
    pub AllFit-events : Fits (events_of o fresh v did next cycle)
    AllFit-events = by_shape (shape_of o v next did fresh cycle (ReportFits did cycle) c (report_fits did cycle c))
