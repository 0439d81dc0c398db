-- The first of a step's events.
use Rattle.std.proofs.Common.{◌≡◌, ◌≢◌, ◌⊎◌, inl, inr, ℕ, Bool, true, false, ◌&&◌, if◌then◌else◌, List, [], ◌∷◌, ◌++◌, Option, Some, None, Box, Global, refl, sym, ◌∙◌, ap, append_assoc}
use Rattle.std.specs.Prelude.{is_some}
use Rattle.std.proofs.lemmas.Bool.{or_from}
use Rattle.std.proofs.lemmas.List.Folds.{list_any-append}
use Rattle.thy_text.specs.Event.{Event, Reload}
use Rattle.thy_isa.specs.declared.state.MachState.{MachState}
use Rattle.thy_computer.specs.declared.did.Did.{Did}
use Rattle.thy_computer.specs.declared.did.Did.TheVariants.{Loaded, Restarted, Committed}
use Rattle.thy_computer.specs.declared.did.Stepped.{Stepped}
use Rattle.thy_computer.specs.declared.view.View.{View}
use Rattle.thy_computer.specs.Views.{loads, halts}
use Rattle.thy_computer.specs.Origin.{Origin}
use Rattle.thy_run.specs.Cuts.{is_end, has_ended}
use Rattle.thy_run.specs.World.{did_events, reload_events, end_events, events_of}
use Rattle.thy_run.proofs.WorldLaws.{report_is_uncut, reload_uncut}
use Rattle.thy_run.specs.Due.{shows_console, IsReported}
use Rattle.thy_run.specs.Going.{MadeSome, IsEnding}

-- ---- if an event is due, there is one to make

none_before : (a b : List Event) → a ++ b ≡ [] → a ≡ []
none_before [] b e = refl
none_before (v ∷ a) b e = absurd (cc)

none_behind : (a b : List Event) → a ++ b ≡ [] → b ≡ []
none_behind [] b e = e
none_behind (v ∷ a) b e = absurd (cc)

some_if : (b : Bool) (v : Event) → b ≡ true → (if b then v ∷ [] else []) ≢ []
some_if true v h = λ e. absurd (cc)
some_if false v h = absurd (cc)

report_is_due : (o : Origin) (v : View) (did : Did) (cycle : ℕ) → shows_console did ≡ true → did_events o v did cycle ≢ []
report_is_due o v Loaded cycle h = λ e. absurd (cc)
report_is_due o v (Restarted epoch count) cycle h = λ e. absurd (cc)
report_is_due o v (Committed epoch overlapped) cycle h = λ e. absurd (cc)
report_is_due o v did cycle h = absurd (cc)

end_due : (o : Origin) (v next : View) (cycle : ℕ) → halts v next ≡ true → end_events o v next cycle ≢ []
end_due o v next cycle h = some_if (halts v next) _ h

pub events_due : (o : Origin) (fresh : Bool) (v next : View) (did : Did) (cycle : ℕ) → (shows_console did ≡ true) ⊎ (halts v next ≡ true)
    → events_of o fresh v did next cycle ≢ []
events_due o fresh v next did cycle (inl h) =
    λ e. report_is_due o v did cycle h (none_behind (reload_events fresh next) (did_events o v did cycle)
    (none_before (reload_events fresh next ++ did_events o v did cycle) (end_events o v next cycle) e))
events_due o fresh v next did cycle (inr h) =
    λ e. end_due o v next cycle h (none_behind (reload_events fresh next ++ did_events o v did cycle) (end_events o v next cycle) e)

-- a step with an event shows a console, or halts
pub report_or_halts : (r : Stepped) (h : Bool) → r.ended ≡ h → IsReported r → (shows_console r.did ≡ true) ⊎ (h ≡ true)
report_or_halts r h is (inl shown) = inl shown
report_or_halts r h is (inr ended) = inr (sym is ∙ ended)

-- the state of an end is there if the step halts
pub ended_halts : (o : Origin) (v next : View) (ended : Option (Box MachState Global)) → IsEnding o v next ended → is_some ended ≡ true
    → halts v next ≡ true
ended_halts o v next None ending h = absurd (cc)
ended_halts o v next (Some state) ending h = ending.0

-- ---- what was made

-- all events of a cycle but the end were made
pub made_but_end : (o : Origin) (fresh : Bool) (v next : View) (did : Did) (cycle : ℕ) (reload : Bool) (before one two : List Event)
    → reload ≡ (fresh && loads next) → one ≡ before ++ (if reload then Reload ∷ [] else []) → two ≡ one ++ did_events o v did cycle
    → halts v next ≡ true
    → MadeSome two (events_of o fresh v did next cycle) before
made_but_end o fresh v next did cycle reload before one two is first second ends =
    let r : (if reload then Reload ∷ [] else []) ≡ reload_events fresh next = ap (λ b. if b then Reload ∷ [] else []) is in
    record {
      part = reload_events fresh next ++ did_events o v did cycle;
      rest = end_events o v next cycle;
      grew = second ∙ ap (λ (l : List Event). l ++ did_events o v did cycle) (first ∙ ap (λ (l : List Event). before ++ l) r)
          ∙ append_assoc before (reload_events fresh next) (did_events o v did cycle);
      split = refl;
      some = end_due o v next cycle ends;
      unended = list_any-append is_end (reload_events fresh next) (did_events o v did cycle)
          ∙ or_from (has_ended (reload_events fresh next)) (has_ended (did_events o v did cycle)) (reload_uncut (fresh && loads next)).1
          (report_is_uncut o v did cycle).1;
    }
