-- What counts as a checkpoint under way is one of the run's.
use Rattle.std.proofs.Common.{◌≡◌, ℕ, zero, suc, Bool, true, false, not, ◌&&◌, is_some, Option, None, List, refl, sym, ◌∙◌, ap, ap₂, inl, inr}
use Rattle.std.specs.Prelude.{MatchBool}
use Rattle.thy_block.specs.declared.mark.Mark.{Mark}
use Rattle.thy_layout.specs.declared.engine_step.EngineStep.{EngineStep}
use Rattle.thy_layout.specs.declared.engine_step.EngineStep.TheVariants.{Idle, Copied, PageBlock, StateBlock, TableBlock, Barrier, CommitWritten, Committed as EngineCommitted}
use Rattle.thy_computer.specs.declared.did.Did.{Did}
use Rattle.thy_computer.specs.declared.did.Did.TheVariants.{Boot, Loaded, Restarted, Refused, Moved, Retired, Flushed, Merged, Sealed, Promoted, Engine, Committed, NvmDrained, DramDrained, Nothing}
use Rattle.thy_computer.specs.declared.view.Phase.{Phase}
use Rattle.thy_computer.specs.declared.view.View.{View}
use Rattle.thy_computer.specs.CoreStep.{CoreStep, EngineTo, MovesTo}
use Rattle.thy_computer.specs.Kind.{KindOf}
use Rattle.thy_computer.specs.Origin.{Origin}
use Rattle.thy_computer.specs.Safe.{ceiling}
use Rattle.thy_computer.specs.Views.{is_boot}
use Rattle.thy_run.specs.Watching.{Taken, IsListed, taken_in}
use Rattle.thy_run.specs.World.{World, Given, IsCutOff, is_due, line, seen, tear}
use Rattle.thy_run.proofs.StepAlong.{core_of}
use Rattle.thy_observe.specs.Causes.{under_way_after, under_way_after_cut, under_way_after_step}
use Rattle.thy_observe.specs.UnderWay.{KnowsUnderWay}
use Rattle.thy_observe.proofs.CauseLemmas.{under-way-one}
use Rattle.thy_observe.proofs.FollowLemmas.{boots_on, engine-phase, found_boots, image_boots, moved-phase}

-- it is in no boot, and has a checkpoint that is sealed
abbrev is_sealed : View → Bool
is_sealed v = not (is_boot v.phase) && is_some v.sealed

in-boot : (v : View) → is_boot v.phase ≡ true → is_sealed v ≡ false
in-boot v boots = ap (λ (b : Bool). not b && is_some v.sealed) boots

and-false : (b : Bool) → (b && false) ≡ false
and-false true = refl
and-false false = refl

none-sealed : (v : View) → v.sealed ≡ None → is_sealed v ≡ false
none-sealed v none = ap (λ (m : Option Mark). not (is_boot v.phase) && is_some m) none ∙ and-false (not (is_boot v.phase))

-- ---- one step

keeps : (v next : View) (b : Bool) → next.phase ≡ v.phase → next.sealed ≡ v.sealed → b ≡ is_sealed v → b ≡ is_sealed next
keeps v next b phase sealed h = h ∙ sym (ap₂ (λ (p : Phase) (m : Option Mark). not (is_boot p) && is_some m) phase sealed)

moved-sealed : (v next : View) → MovesTo v next → next.sealed ≡ v.sealed
moved-sealed v next to = elim to as (λ _. next.sealed ≡ v.sealed) [
  | inl e ↦ ap (λ (w : View). w.sealed) e
  | inr e ↦ ap (λ (w : View). w.sealed) e.4
]

engine-sealed : (step : EngineStep) (v next : View) → EngineTo step v next → next.sealed ≡ v.sealed
engine-sealed Idle v next to = absurd to
engine-sealed CommitWritten v next to = ap (λ (w : View). w.sealed) to.2
engine-sealed (EngineCommitted epoch) v next to = absurd to
engine-sealed Copied v next to = ap (λ (w : View). w.sealed) to
engine-sealed PageBlock v next to = ap (λ (w : View). w.sealed) to
engine-sealed StateBlock v next to = ap (λ (w : View). w.sealed) to
engine-sealed TableBlock v next to = ap (λ (w : View). w.sealed) to
engine-sealed Barrier v next to = ap (λ (w : View). w.sealed) to

same : (v next w : View) (b : Bool) → next ≡ w → w.phase ≡ v.phase → w.sealed ≡ v.sealed → b ≡ is_sealed v → b ≡ is_sealed next
same v next w b becomes phase sealed h =
    keeps v next b (ap (λ (u : View). u.phase) becomes ∙ phase) (ap (λ (u : View). u.sealed) becomes ∙ sealed) h

step-on : (p : Origin) (v next : View) (did : Did) (b : Bool) → CoreStep p v did next → b ≡ is_sealed v
    → under_way_after_step b did ≡ is_sealed next
step-on p v next Boot b s h = h ∙ in-boot v (ap is_boot s.0) ∙ sym (in-boot next (boots_on v next s.0 s.1))
step-on p v next Loaded b s h = h ∙ in-boot v (ap is_boot s.phase) ∙ sym (none-sealed next (ap (λ (w : View). w.sealed) s.becomes))
step-on p v next (Restarted epoch count) b s h =
    h ∙ in-boot v (ap is_boot s.phase) ∙ sym (none-sealed next (ap (λ (w : View). w.sealed) s.becomes ∙ s.unsealed))
step-on p v next (Refused bad) b s h = same v next _ b s.3 refl refl h
step-on p v next Moved b s h = keeps v next b (moved-phase v next s.3) (moved-sealed v next s.3) h
step-on p v next (Retired hart) b s h = same v next _ b s.becomes refl refl h
step-on p v next Flushed b s h = same v next _ b s.1 refl refl h
step-on p v next Merged b s h = same v next _ b s.1 refl refl h
step-on p v next Promoted b s h = same v next _ b s.1 refl refl h
step-on p v next (Sealed epoch count cause) b s h = sym (ap is_sealed s.becomes ∙ ap (λ (q : Phase). not (is_boot q) && true) s.phase)
step-on p v next (Engine step) b s h = keeps v next b (engine-phase step v next s.1) (engine-sealed step v next s.1) h
step-on p v next (Committed epoch overlapped) b s h = sym (none-sealed next (ap (λ (w : View). w.sealed) s.becomes))
step-on p v next NvmDrained b s h = same v next _ b s refl refl h
step-on p v next DramDrained b s h = same v next _ b s refl refl h
step-on p v next Nothing b s h = same v next _ b s.1 refl refl h

-- ---- a run

module _ {M : Type 0} (K : KindOf M) (o : Origin) where
  -- the cut that may fall after a step
  cut-on : (x next : World M) (pick : ℕ) (fell : Bool) → MatchBool fell (IsCutOff K o pick x next) (next ≡ x)
      → (b : Bool) → b ≡ is_sealed (seen K o x) → under_way_after_cut b fell ≡ is_sealed (seen K o next)
  cut-on x next pick true cut b h =
      let boots : is_boot (seen K o next).phase ≡ true =
      ap (λ (v : View). is_boot v.phase) cut.found ∙ image_boots o.start.count (K.decode o.geometry ceiling next.device.image) in
      sym (in-boot (seen K o next) boots)
  cut-on x next pick false same b h = h ∙ ap (λ (y : World M). is_sealed (seen K o y)) (sym same)

  knows : (given : Given) (k : ℕ) (w : World M) (cycles : List Taken) → IsListed K o given k w cycles
      → under_way_after false cycles ≡ is_sealed (seen K o w)
  knows given zero w cycles (first, none) =
      ap (under_way_after false) none ∙ sym (in-boot (seen K o w) (ap (λ (v : View). is_boot v.phase) first.found ∙ found_boots o o.kept))
  knows given (suc k) w cycles (before, earlier, c, h, is) =
      let t : Taken = taken_in K o given.config.cuts given.config.tears before w c in
      let stepped : under_way_after_step (under_way_after false earlier) t.stepped.did ≡ is_sealed (seen K o c.between) =
      step-on (line o c.between) (seen K o before) (seen K o c.between) t.stepped.did (under_way_after false earlier)
      (core_of K o before c.between c.steps) (knows given k before earlier h) in
      ap (under_way_after false) is
      ∙ under-way-one false earlier t
      ∙ cut-on c.between w (tear given.config.tears c.between.passed) (is_due K o given.config.cuts c.between) c.cut
      (under_way_after_step (under_way_after false earlier) t.stepped.did) stepped

pub knows-under-way : {M : Type 0} (K : KindOf M) → KnowsUnderWay K
knows-under-way K o given k w cycles listed = knows K o given k w cycles listed
