-- Steps one after another, while the program runs.
use Rattle.std.proofs.Common.{◌≡◌, ℕ, ◌+◌, ◌<◌, true, false, ap, sym, ◌∙◌, arith}
use borrow.Author.Count.{below_more}
use Rattle.thy_isa.specs.Step.{State, is_running, steps}
use Rattle.thy_isa.proofs.StepLaws.{step-count, steps-zero, steps-one_more, steps-count}
use Rattle.thy_plain.specs.Machine.{Machine, StopsAt, after_steps, stepped}

-- the program runs at every count of steps below k
pub record Ran (m : Machine) (k : ℕ) : Type 0 where
  pub each : (j : ℕ) → j < k → is_running (steps m.setting j m.state).status ≡ true

pub Ran-none : (m : Machine) → Ran m 0
Ran-none m = record { each = λ j h. absurd (omega arith) }

pub Ran-more : (m : Machine) (k : ℕ) → Ran m k → is_running (steps m.setting k m.state).status ≡ true → Ran m (k + 1)
Ran-more m k before here = record { each = below_more (λ (j : ℕ). is_running (steps m.setting j m.state).status ≡ true) k before.each here }

-- no steps change nothing
pub after_none : (m : Machine) → after_steps 0 m ≡ m
after_none m = ap (λ (s : State). record m { state = s }) (steps-zero m.setting m.state)

-- one step more
pub after_more : (m : Machine) (k : ℕ) → stepped (after_steps k m) ≡ after_steps (k + 1) m
after_more m k = ap (λ (s : State). record m { state = s }) (sym (steps-one_more m.setting k m.state))

-- the count of a machine that runs
pub count_below : (m now : Machine) (k bound : ℕ) → now ≡ after_steps k m → is_running now.state.status ≡ true → m.state.count + k < bound
    → now.state.count < bound
count_below m now k bound is runs below =
    let still : is_running (steps m.setting k m.state).status ≡ true = ap (λ (n : Machine). is_running n.state.status) (sym is) ∙ runs in
    omega (arith, ap (λ (n : Machine). n.state.count) is, steps-count m.setting k m.state still)

-- one step more of a machine that ran adds one to the count
pub count_more : (m now : Machine) (k : ℕ) → is_running (steps m.setting k m.state).status ≡ true → now ≡ after_steps (k + 1) m
    → now.state.count ≡ m.state.count + (k + 1)
count_more m now k runs is =
    let before = steps m.setting k m.state in
    omega (
      arith,
      ap (λ (n : Machine). n.state.count) is,
      ap (λ (s : State). s.count) (steps-one_more m.setting k m.state),
      step-count m.setting before runs,
      steps-count m.setting k m.state runs,
    )

-- ---- where a run stops

-- at once, if the program does not run
pub stops_at_once : (m : Machine) (limit : ℕ) → is_running m.state.status ≡ false → StopsAt m limit 0
stops_at_once m limit ended = record {
  within = omega arith;
  ran = λ j h. absurd (omega (arith, h));
  over = λ h. ap (λ (s : State). is_running s.status) (steps-zero m.setting m.state) ∙ ended;
}

-- after one step more, which ends the program
pub stops_after : (m now : Machine) (limit k : ℕ) → k < limit → Ran m k → is_running (steps m.setting k m.state).status ≡ true
    → now ≡ after_steps (k + 1) m → is_running now.state.status ≡ false → StopsAt m limit (k + 1)
stops_after m now limit k below before runs is ended = record {
  within = omega (arith, below);
  ran = (Ran-more m k before runs).each;
  over = λ h. ap (λ (n : Machine). is_running n.state.status) (sym is) ∙ ended;
}
