-- A moment, whatever turns are to come.
use Rattle.std.proofs.Common.{◌≡◌, ℕ, List, refl, sym, ap, subst}
use Rattle.thy_block.specs.Device.{Device}
use Rattle.thy_computer.specs.declared.view.Phase.{Phase}
use Rattle.thy_computer.specs.declared.view.Phase.TheVariants.{Boot, Run, Halt}
use Rattle.thy_computer.specs.declared.view.View.{View}
use Rattle.thy_computer.specs.Kind.{IsSeenAlike}
use Rattle.thy_computer.specs.Origin.{Origin}
use Rattle.thy_computer.specs.WithTurns.{with_turns, AgreeBelow, reach, HasTurn}
use Rattle.thy_computer.proofs.TurnLaws.{AgreeBelow-same, AgreeBelow-on, AgreeBelow-less}
use Rattle.thy_computer.proofs.ReachLaws.{steps-reach, HasTurn-agrees}
use Rattle.thy_scheme.specs.Scheme.{SchemeOf}
use Rattle.thy_scheme.specs.Laws.{IsLawful}
use Rattle.thy_scheme.specs.Kind.{kind_over, left_ahead}
use Rattle.thy_scheme.specs.Machine.{Machine, view_in, view_of, gauge_of}
use Rattle.thy_scheme.specs.Pace.{most_spent}
use Rattle.thy_scheme.specs.Runs.{LeadsToMoment}
use Rattle.thy_scheme.specs.Sound.{Sound, IsAt}

-- along the run's own turns
pub sound-here : {S : Type 0} (K : SchemeOf S) (o : Origin) (cycles : ℕ) (m : Machine S) (n : Device) → IsAt K o cycles m n
    → Sound K o cycles m n
sound-here K o cycles m n at = at o.turns (AgreeBelow-same o (reach (view_of K o m n)))

module _ {S : Type 0} (K : SchemeOf S) (l : IsLawful K) (o : Origin) (turns : List ℕ) (m : Machine S) (n : Device) where
  -- what a machine shows is the same along other turns
  alike-in : (phase : Phase) → view_in K (with_turns o turns) phase m n ≡ view_in K o phase m n
  alike-in Boot = l.boot_alike o turns m.scheme n
  alike-in Run = refl
  alike-in Halt = refl

  pub view-alike : view_of K (with_turns o turns) m n ≡ view_of K o m n
  view-alike = alike-in m.phase

  pub seen-alike : IsSeenAlike (kind_over K) o turns m n
  seen-alike = record {
    view = view-alike;
    ahead = ap (λ (v : View). left_ahead (most_spent K o.geometry) v (gauge_of K m n)) view-alike;
  }

pub is_at-agrees : {S : Type 0} (K : SchemeOf S) → IsLawful K → (o : Origin) (turns : List ℕ) (cycles : ℕ) (m : Machine S) (n : Device)
    → IsAt K o cycles m n → AgreeBelow o turns (reach (view_of K o m n)) → IsAt K (with_turns o turns) cycles m n
is_at-agrees K l o turns cycles m n at agree =
    λ more further. at more
    (AgreeBelow-on o turns more (reach (view_of K o m n)) agree
    (subst (λ (v : View). AgreeBelow (with_turns o turns) more (reach v)) (view-alike K l o turns m n) further))

pub leads_to_moment : {S : Type 0} (K : SchemeOf S) → LeadsToMoment K
leads_to_moment K o cycles did m next n new l simulates mine =
    let v = view_of K o m n in
    let w = view_of K o next new in
    let step = (simulates o.turns (AgreeBelow-same o (reach v)) mine).step in
    λ turns agree.
    (simulates turns (AgreeBelow-less o turns (reach v) (reach w) (steps-reach o v w did step) agree)
    (subst (λ (x : View). HasTurn (with_turns o turns) x did) (sym (view-alike K l o turns m n)) (HasTurn-agrees o turns v w did step agree mine))).at_next
