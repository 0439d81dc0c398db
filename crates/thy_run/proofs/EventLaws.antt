-- All the events of a cycle leave marks that fit the view.
use Rattle.std.proofs.Common.{◌≡◌, ℕ, ◌≤◌, Bool, true, false, ◌&&◌, not, is_none, if◌then◌else◌, Option, Some, None, List, [], ◌∷◌, ◌++◌, refl, sym, ◌∙◌, ap, subst, inl, inr}
use Rattle.std.proofs.lemmas.Bool.{and_parts}
use Rattle.thy_block.specs.declared.mark.Mark.{Mark}
use Rattle.thy_text.specs.Event.{Event, Reload, Ended}
use Rattle.thy_text.specs.Marks.{Marks, loading_marks, marks_from, AllLawful}
use Rattle.thy_text.proofs.Histories.{marks_from-append}
use Rattle.thy_computer.specs.declared.did.Did.{Did}
use Rattle.thy_computer.specs.declared.did.Did.TheVariants.{Boot, Loaded, Restarted, Refused, Moved, Retired, Flushed, Merged, Sealed, Promoted, Engine, Committed, NvmDrained, DramDrained, Nothing}
use Rattle.thy_computer.specs.declared.view.Phase.{Phase}
use Rattle.thy_computer.specs.declared.view.Phase.TheVariants.{Boot as BootPhase, Run, Halt}
use Rattle.thy_computer.specs.declared.view.View.{View}
use Rattle.thy_computer.specs.Views.{is_boot, is_halt, loads, halts}
use Rattle.thy_computer.specs.CoreStep.{CoreStep}
use Rattle.thy_computer.specs.Origin.{Origin, runs_at, at}
use Rattle.thy_run.specs.Laws.{course_of}
use Rattle.thy_run.specs.World.{did_events, reload_events, end_events, events_of}
use Rattle.thy_run.proofs.Fitting.{BootFits, FitsIn, Fits}
use Rattle.thy_run.proofs.FittingLaws.{Fits-reported}

-- a phase that is none of a boot's
not_boot : (b : Bool) → (if b then Run else Halt) ≡ BootPhase → {A : Type 0} → A
not_boot true e = absurd (cc)
not_boot false e = absurd (cc)

-- a boot that continues reports nothing but a reload
pub reported-booting : (o : Origin) (v next : View) (did : Did) (cycle : ℕ) → CoreStep o v did next → next.phase ≡ BootPhase
    → did_events o v did cycle ≡ []
reported-booting o v next Boot cycle s boot = refl
reported-booting o v next Loaded cycle s boot = absurd (let e : next.phase ≡ Run = ap (λ w. w.phase) s.becomes in cc)
reported-booting o v next (Restarted epoch count) cycle s boot = not_boot (runs_at o count) (sym (ap (λ w. w.phase) s.becomes) ∙ boot)
reported-booting o v next (Refused bad) cycle s boot = refl
reported-booting o v next Moved cycle s boot = refl
reported-booting o v next (Retired hart) cycle s boot = refl
reported-booting o v next Flushed cycle s boot = refl
reported-booting o v next Merged cycle s boot = refl
reported-booting o v next Promoted cycle s boot = refl
reported-booting o v next (Sealed epoch count cause) cycle s boot =
    absurd (let e : next.phase ≡ v.phase = ap (λ w. w.phase) s.becomes in let r : v.phase ≡ Run = s.phase in cc)
reported-booting o v next (Engine step) cycle s boot = refl
reported-booting o v next (Committed epoch overlapped) cycle s boot = not_boot (runs_at o s.count) (sym (ap (λ w. w.phase) s.becomes) ∙ boot)
reported-booting o v next NvmDrained cycle s boot = refl
reported-booting o v next DramDrained cycle s boot = refl
reported-booting o v next Nothing cycle s boot = refl

boot_is : (p : Phase) → is_boot p ≡ true → p ≡ BootPhase
boot_is BootPhase e = refl
boot_is Run e = absurd (cc)
boot_is Halt e = absurd (cc)

halt_is : (p : Phase) → is_halt p ≡ true → p ≡ Halt
halt_is BootPhase e = absurd (cc)
halt_is Run e = absurd (cc)
halt_is Halt e = refl

none_is : (done : Option Mark) → is_none done ≡ true → done ≡ None
none_is None e = refl
none_is (Some m) e = absurd (cc)

-- a view that loads is one of a boot that has no committed mark
pub loads-view : (v : View) → loads v ≡ true → (v.phase ≡ BootPhase) × (v.done ≡ None)
loads-view v e =
    let both = and_parts (is_boot v.phase) (is_none v.done) e in
    (boot_is v.phase both.0, none_is v.done both.1)

-- a view that halts has halted
pub halts-view : (v next : View) → halts v next ≡ true → next.phase ≡ Halt
halts-view v next e = halt_is next.phase (and_parts (not (is_halt v.phase)) (is_halt next.phase) e).1

-- the marks of a view that loads are the marks of a file that is loaded
loading_marks_of : (o : Origin) (v : View) (m : Marks) → Fits o v m → v.phase ≡ BootPhase → v.done ≡ None → m ≡ loading_marks o.start.count
loading_marks_of o v m h phase none =
    let f : BootFits o v m = subst (FitsIn o v m) phase h in
    elim f.boots as (λ _. m ≡ loading_marks o.start.count) [
      | inl l ↦ l.marks
      | inr r ↦ absurd (let some : v.done ≡ Some r.mark = r.done in cc)
    ]

-- the end of a run leaves the marks
end_marks : (o : Origin) (m : Marks) (next : View) (cycle : ℕ) (b : Bool)
    → marks_from o.start.count m (if b then Ended (at o next.count).status next.count cycle (at o next.count) ∷ [] else []) ≡ m
end_marks o m next cycle true = refl
end_marks o m next cycle false = refl

-- what follows a reload, or none
pub record Reloads (o : Origin) (m : Marks) (reload : List Event) : Type 0 where
  pub lawful : AllLawful (course_of o) m reload
  pub marks : marks_from o.start.count m reload ≡ m

module _ (o : Origin) (v next : View) (m : Marks) (did : Did) (fresh : Bool) where
  -- the marks that a reload leaves are those that stood
  pub Reloads-reported : 1 ≤ o.geometry.epoch → Fits o v m → CoreStep o v did next → Reloads o m (reload_events fresh next)
  Reloads-reported least h s = by_test (fresh && loads next) refl
    where
      by_test : (b : Bool) → (fresh && loads next) ≡ b → Reloads o m (if b then Reload ∷ [] else [])
      by_test false is = record { lawful = tt; marks = refl }
      by_test true is =
          let view = loads-view next (and_parts fresh (loads next) is).1 in
          let after : Fits o next (marks_from o.start.count m (did_events o v did 0)) = Fits-reported o v next m least h did 0 s in
          let now : Fits o next m = subst (λ vs. Fits o next (marks_from o.start.count m vs)) (reported-booting o v next did 0 s view.0) after in
          let marks : m ≡ loading_marks o.start.count = loading_marks_of o next m now view.0 view.1 in
          record { lawful = (ap (λ n. n.kept) marks, tt); marks = sym marks }

  -- all events of a cycle leave the marks that what was done leaves
  pub marks-events : (cycle : ℕ) → 1 ≤ o.geometry.epoch → Fits o v m → CoreStep o v did next
      → marks_from o.start.count m (events_of o fresh v did next cycle) ≡ marks_from o.start.count m (did_events o v did cycle)
  marks-events cycle least h s =
      let reload : List Event = reload_events fresh next in
      let step : List Event = did_events o v did cycle in
      let start : ℕ = o.start.count in
      marks_from-append start m (reload ++ step) (end_events o v next cycle)
      ∙ end_marks o (marks_from start m (reload ++ step)) next cycle (halts v next)
      ∙ marks_from-append start m reload step ∙ ap (λ n. marks_from start n step) (Reloads-reported least h s).marks

  -- all events of a cycle fit what the cycle did
  pub Fits-events : (cycle : ℕ) → 1 ≤ o.geometry.epoch → Fits o v m → CoreStep o v did next
      → Fits o next (marks_from o.start.count m (events_of o fresh v did next cycle))
  Fits-events cycle least h s =
      subst (Fits o next) (sym (marks-events cycle least h s)) (Fits-reported o v next m least h did cycle s)
