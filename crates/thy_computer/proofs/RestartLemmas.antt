-- In a boot that found a checkpoint no mark is in doubt.
use Rattle.std.proofs.Common.{◌≡◌, Bool, true, false, ◌||◌, if◌then◌else◌, Option, Some, None, refl, sym, ◌∙◌, ap, inl, inr}
use Rattle.thy_block.specs.declared.mark.Mark.{Mark}
use Rattle.thy_computer.specs.declared.did.Did.{Did}
use Rattle.thy_computer.specs.declared.did.Did.TheVariants.{Boot as DidBoot, Loaded, Restarted, Refused, Moved, Retired, Flushed, Merged, Sealed, Promoted, Engine, Committed, NvmDrained, DramDrained, Nothing}
use Rattle.thy_computer.specs.declared.view.Phase.TheVariants.{Boot, Run, Halt}
use Rattle.thy_computer.specs.declared.view.View.{View}
use Rattle.thy_computer.specs.Action.{Action, is_commit_write, doubt_after_fault}
use Rattle.thy_computer.specs.CoreStep.{CoreStep}
use Rattle.thy_computer.specs.Origin.{Origin}
use Rattle.thy_computer.specs.Views.{IsRestarting, doubt_of}

none_if : (b : Bool) (sealed : Option Mark) → sealed ≡ None → (if b then sealed else None) ≡ None
none_if true sealed none = none
none_if false sealed none = refl

pub undoubted : (v : View) → v.sealed ≡ None → doubt_of v ≡ None
undoubted v none = none_if v.written v.sealed none

pub undoubted_after : (a : Action) (v : View) → v.sealed ≡ None → doubt_after_fault a v ≡ None
undoubted_after a v none = none_if (is_commit_write a || v.written) v.sealed none

-- a step leaves that checkpoint the committed one, and seals none
pub record Spares (next : View) (found : Mark) : Type 0 where
  pub done : next.done ≡ Some found
  pub unsealed : next.sealed ≡ None

module _ (o : Origin) (v next : View) (found : Mark) (r : IsRestarting v found) (none : v.sealed ≡ None) where
  same : next ≡ v → Spares next found
  same is = record { done = ap (λ (w : View). w.done) is ∙ r.done; unsealed = ap (λ (w : View). w.sealed) is ∙ none }

  loads : v.done ≡ None → Spares next found
  loads e = absurd (let both : None ≡ Some found = sym e ∙ r.done in cc)

  runs : v.phase ≡ Run → Spares next found
  runs e = absurd (let both : Boot ≡ Run = sym r.phase ∙ e in cc)

  halts : v.phase ≡ Halt → Spares next found
  halts e = absurd (let both : Boot ≡ Halt = sym r.phase ∙ e in cc)

  pub spares : (did : Did) → CoreStep o v did next → Spares next found
  spares DidBoot s = elim s.1 as (λ _. Spares next found) [ inl e ↦ same e | inr e ↦ loads e.0 ]
  spares Loaded s = loads s.none
  spares (Restarted epoch count) s = record {
    done = ap (λ (w : View). w.done) s.becomes ∙ r.done;
    unsealed = ap (λ (w : View). w.sealed) s.becomes ∙ none;
  }
  spares (Refused bad) s = loads s.1
  spares Moved s = runs s.0
  spares (Retired hart) s = runs s.phase
  spares Flushed s = runs s.0
  spares Merged s = runs s.0
  spares (Sealed epoch count cause) s = runs s.phase
  spares Promoted s = runs s.0
  spares (Engine step) s = runs s.0
  spares (Committed epoch overlapped) s = runs s.phase
  spares NvmDrained s = same s
  spares DramDrained s = same s
  spares Nothing s = halts s.0
