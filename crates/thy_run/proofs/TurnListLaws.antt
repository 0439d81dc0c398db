-- Which turns a cycle reports: with one hart none, with two the turn of an instruction which it retired. So whatever a cycle
-- did has its turn, and what is above these laws knows no number of harts.
use Rattle.std.proofs.Common.{◌≡◌, ℕ, ◌+◌, ◌-◌, ◌≤◌, ◌==◌, Bool, true, false, if◌then◌else◌, List, [], ◌∷◌, ◌++◌, length, take, refl, sym, ◌∙◌, ap, subst, arith}
use Rattle.std.proofs.lemmas.Bool.{eq-eqb, eqb-true}
use Rattle.std.proofs.lemmas.List.{length-append, length-take, length-take-le, nil_from_length}
use Rattle.thy_layout.specs.Decoded.{Decoded}
use Rattle.thy_text.specs.Marks.{turns_listed}
use Rattle.thy_computer.specs.declared.did.Did.{Did}
use Rattle.thy_computer.specs.declared.did.Did.TheVariants.{Boot, Loaded, Restarted, Refused, Moved, Retired, Flushed, Merged, Sealed, Promoted, Engine, Committed, NvmDrained, DramDrained, Nothing}
use Rattle.thy_computer.specs.declared.view.Phase.{Phase}
use Rattle.thy_computer.specs.declared.view.Phase.TheVariants.{Run}
use Rattle.thy_computer.specs.declared.view.View.{View}
use Rattle.thy_computer.specs.Booting.{view_of_image}
use Rattle.thy_computer.specs.CoreStep.{CoreStep}
use Rattle.thy_computer.specs.Origin.{Origin, turn_at}
use Rattle.thy_computer.specs.Pace.{retires}
use Rattle.thy_computer.specs.WithTurns.{with_turns, AgreeBelow, reach_in, reach, IsAtWork, IsThere, HasTurn}
use Rattle.thy_computer.proofs.OneHartLaws.{has-turn}
use Rattle.thy_computer.proofs.ReachLaws.{stays-there}
use Rattle.thy_computer.proofs.TurnLaws.{AgreeBelow-same, taken-agrees, last-with_turns}
use Rattle.thy_run.specs.World.{turns_after, turns_kept}
use Rattle.thy_run.specs.Going.{HasItsTurns}

-- ---- one cycle

-- with one hart none is reported
pub one_after : (harts : ℕ) (turns : List ℕ) (did : Did) → harts ≡ 1 → turns_after harts turns did ≡ turns
one_after harts turns (Retired hart) one = ap (λ b. if b then turns else turns ++ hart ∷ []) (eq-eqb harts 1 one)
one_after harts turns did one = refl

-- a cycle that retires nothing reports none
pub after_same : (harts : ℕ) (turns : List ℕ) (did : Did) → retires did ≡ 0 → turns_after harts turns did ≡ turns
after_same harts turns (Retired hart) none = absurd (cc)
after_same harts turns did none = refl

-- the view of a hart at work is at its count
at_work : (o : Origin) (v : View) (hart : ℕ) → IsAtWork o v hart → reach v ≡ v.count
at_work o v hart h = ap (λ (p : Phase). reach_in p v) h.runs

module _ (o : Origin) (turns : List ℕ) (v : View) (hart : ℕ) (all : HasItsTurns (with_turns o turns) v) where
  -- with one hart no turn is reported so far
  none_yet : (o.geometry.harts == 1) ≡ true → turns ≡ []
  none_yet one = nil_from_length turns (all ∙ ap (λ (b : Bool). if b then 0 else reach v - o.start.count) one)

  -- with two harts the number of turns is the number of instructions that the view reaches
  many_yet : (o.geometry.harts == 1) ≡ false → length turns ≡ reach v - o.start.count
  many_yet two = all ∙ ap (λ (b : Bool). if b then 0 else reach v - o.start.count) two

  retired_has : IsAtWork (with_turns o turns) v hart → (b : Bool) → (o.geometry.harts == 1) ≡ b
      → turn_at (with_turns o (if b then turns else turns ++ hart ∷ [])) v.count ≡ hart
  retired_has h true one =
      let none : turns ≡ [] = none_yet one in
      subst (λ (l : List ℕ). turn_at (with_turns o l) v.count ≡ hart) (sym none)
      (has-turn o v (Retired hart) (eqb-true o.geometry.harts 1 one) (record { there = h.there; runs = h.runs; late = h.late }))
  retired_has h false two =
      (last-with_turns o turns hart v.count h.late (many_yet two ∙ ap (λ n. n - o.start.count) (at_work (with_turns o turns) v hart h))).0

  retired_agrees : IsAtWork (with_turns o turns) v hart → (b : Bool) → (o.geometry.harts == 1) ≡ b
      → AgreeBelow (with_turns o turns) (if b then turns else turns ++ hart ∷ []) (reach v)
  retired_agrees h true one = AgreeBelow-same (with_turns o turns) (reach v)
  retired_agrees h false two =
      let here : reach v ≡ v.count = at_work (with_turns o turns) v hart h in
      subst (AgreeBelow (with_turns o turns) (turns ++ hart ∷ [])) (sym here)
      (last-with_turns o turns hart v.count h.late (many_yet two ∙ ap (λ n. n - o.start.count) here)).1

  retired_listed : (next : View) → reach next ≡ reach v + 1 → o.start.count ≤ reach v → (b : Bool) → (o.geometry.harts == 1) ≡ b
      → length (if b then turns else turns ++ hart ∷ []) ≡ (if b then 0 else reach next - o.start.count)
  retired_listed next more late true one = all ∙ ap (λ (b : Bool). if b then 0 else reach v - o.start.count) one
  retired_listed next more late false two =
      let one_more : length (turns ++ hart ∷ []) ≡ length turns + 1 = length-append turns (hart ∷ []) in
      omega (arith, many_yet two, one_more, more, late)

module _ (o : Origin) (turns : List ℕ) (v : View) where
  -- the turns that are reported once a cycle is done give it its turn
  pub after_has : (did : Did) → HasItsTurns (with_turns o turns) v → IsThere (with_turns o turns) v did
      → HasTurn (with_turns o (turns_after o.geometry.harts turns did)) v did
  after_has (Retired hart) all there = retired_has o turns v hart all there (o.geometry.harts == 1) refl
  after_has Boot all there = tt
  after_has Loaded all there = tt
  after_has (Restarted epoch count) all there = tt
  after_has (Refused bad) all there = tt
  after_has Moved all there = tt
  after_has Flushed all there = tt
  after_has Merged all there = tt
  after_has (Sealed epoch count cause) all there = tt
  after_has Promoted all there = tt
  after_has (Engine step) all there = tt
  after_has (Committed epoch overlapped) all there = tt
  after_has NvmDrained all there = tt
  after_has DramDrained all there = tt
  after_has Nothing all there = tt

  -- the turns reported once a cycle is done agree with the turns reported before, as far as the view reaches
  pub after_agrees : (did : Did) → HasItsTurns (with_turns o turns) v → IsThere (with_turns o turns) v did
      → AgreeBelow (with_turns o turns) (turns_after o.geometry.harts turns did) (reach v)
  after_agrees (Retired hart) all there = retired_agrees o turns v hart all there (o.geometry.harts == 1) refl
  after_agrees did all there = AgreeBelow-same (with_turns o turns) (reach v)

  same_listed : (next : View) (did : Did) → HasItsTurns (with_turns o turns) v → CoreStep (with_turns o turns) v did next
      → retires did ≡ 0 → HasItsTurns (with_turns o turns) next
  same_listed next did all step none =
      all ∙ ap (turns_listed o.geometry.harts) (sym (stays-there (with_turns o turns) v next did step none))

  -- the turns reported once a cycle is done reach the state that the cycle came to
  pub after_listed : (next : View) (did : Did) → (v.phase ≡ Run → o.start.count ≤ reach v) → HasItsTurns (with_turns o turns) v
      → CoreStep (with_turns o (turns_after o.geometry.harts turns did)) v did next
      → HasItsTurns (with_turns o (turns_after o.geometry.harts turns did)) next
  after_listed next (Retired hart) late all step =
      let before : reach v ≡ v.count = ap (λ (p : Phase). reach_in p v) step.phase in
      let phase : next.phase ≡ v.phase = ap (λ (w : View). w.phase) step.becomes in
      let count : next.count ≡ v.count + 1 = ap (λ (w : View). w.count) step.becomes in
      let behind : reach next ≡ next.count = ap (λ (p : Phase). reach_in p next) (phase ∙ step.phase) in
      retired_listed o turns v hart all next (omega (arith, before, count, behind)) (late step.phase) (o.geometry.harts == 1) refl
  after_listed next Boot late all step = same_listed next Boot all step refl
  after_listed next Loaded late all step = same_listed next Loaded all step refl
  after_listed next (Restarted epoch count) late all step = same_listed next (Restarted epoch count) all step refl
  after_listed next (Refused bad) late all step = same_listed next (Refused bad) all step refl
  after_listed next Moved late all step = same_listed next Moved all step refl
  after_listed next Flushed late all step = same_listed next Flushed all step refl
  after_listed next Merged late all step = same_listed next Merged all step refl
  after_listed next (Sealed epoch count cause) late all step = same_listed next (Sealed epoch count cause) all step refl
  after_listed next Promoted late all step = same_listed next Promoted all step refl
  after_listed next (Engine step) late all s = same_listed next (Engine step) all s refl
  after_listed next (Committed epoch overlapped) late all step = same_listed next (Committed epoch overlapped) all step refl
  after_listed next NvmDrained late all step = same_listed next NvmDrained all step refl
  after_listed next DramDrained late all step = same_listed next DramDrained all step refl
  after_listed next Nothing late all step = same_listed next Nothing all step refl

-- ---- cuts

pub kept_agrees : (o : Origin) (turns : List ℕ) (d : Decoded)
    → AgreeBelow (with_turns o turns) (turns_kept o turns d) (reach (view_of_image o.start.count d))
kept_agrees o turns d = taken-agrees o turns (reach (view_of_image o.start.count d))

many_kept : (b : Bool) (turns : List ℕ) (old new : ℕ) → new ≤ old → length turns ≡ (if b then 0 else old)
    → length (take new turns) ≡ (if b then 0 else new)
many_kept true turns old new le all = grind (arith, length-take new turns, all)
many_kept false turns old new le all = length-take-le new turns (omega (arith, le, all))

-- the turns that are kept after a cut reach the state at which a boot begins, which is no further than the machine was
pub kept_listed : (o : Origin) (turns : List ℕ) (v : View) (d : Decoded)
    → reach (view_of_image o.start.count d) - o.start.count ≤ reach v - o.start.count → HasItsTurns (with_turns o turns) v
    → HasItsTurns (with_turns o (turns_kept o turns d)) (view_of_image o.start.count d)
kept_listed o turns v d le all =
    many_kept (o.geometry.harts == 1) turns (reach v - o.start.count) (reach (view_of_image o.start.count d) - o.start.count) le all
