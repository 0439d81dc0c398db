-- A program's states by its steps, and that it has one end.
use Rattle.std.proofs.Common.{◌≡◌, ℕ, ◌-◌, List, [], sym, ◌∙◌, ap, arith, ◌+◌, ◌≤◌, false, inl, inr}
use Rattle.thy_isa.specs.Step.{State, is_running, steps, Setting}
use Rattle.thy_computer.specs.Origin.{Origin, setting_of, at}
use Rattle.thy_computer.specs.WithTurns.{with_turns}
use Rattle.thy_computer.proofs.TurnLaws.{at-without_turns}
use Rattle.std.proofs.lemmas.Bool.{cases_order}
use Rattle.thy_isa.proofs.StepLaws.{steps-add, steps-ended}

-- with no turn reported the plain machine takes one step after another
pub at_is : (o : Origin) (k : ℕ) → o.turns ≡ [] → at o k ≡ steps (setting_of o) (k - o.start.count) o.start
at_is o k none = ap (λ (turns : List ℕ). at (with_turns o turns) k) none ∙ at-without_turns o k

-- two ended states of a run of the plain machine are one
later_end : (g : Setting) (s : State) (j k : ℕ) → j ≤ k → is_running (steps g j s).status ≡ false → steps g k s ≡ steps g j s
later_end g s j k less over =
    let more : k ≡ j + (k - j) = omega (arith, less) in
    ap (λ i. steps g i s) more ∙ steps-add g j (k - j) s ∙ steps-ended g (k - j) (steps g j s) over

pub same_end : (g : Setting) (s : State) (j k : ℕ) → is_running (steps g j s).status ≡ false → is_running (steps g k s).status ≡ false
    → steps g j s ≡ steps g k s
same_end g s j k a b = elim (cases_order j k) as (λ _. steps g j s ≡ steps g k s) [
  | inl same ↦ ap (λ i. steps g i s) same
  | inr other ↦ elim other as (λ _. steps g j s ≡ steps g k s) [
    | inl less ↦ sym (later_end g s j k (omega arith) a)
    | inr more ↦ later_end g s k j (omega arith) b
  ]
]
