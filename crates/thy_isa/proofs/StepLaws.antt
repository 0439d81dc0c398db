-- Laws of steps: an ended state stays, and the count grows by one at each step of a state that runs.
use Rattle.std.proofs.Common.{◌≡◌, ℕ, zero, suc, ◌+◌, Bool, true, false, refl, ap, sym, ◌∙◌, arith, add-one, add-suc, add-zero}
use Rattle.thy_isa.specs.declared.state.Effect.{Effect}
use Rattle.thy_isa.specs.declared.state.Effect.TheVariants.{Next, Set, Read, Write, Reserve, Conditional, Fail, Modify, Environment, Trap}
use Rattle.thy_isa.specs.declared.state.Call.{Call}
use Rattle.thy_isa.specs.declared.state.Call.TheVariants.{Answer, Exit, Break, Take, Give}
use Rattle.thy_isa.specs.declared.state.CallState.{CallState}
use Rattle.thy_isa.specs.declared.state.CpuState.{CpuState}
use Rattle.thy_isa.specs.Calls.{call_of}
use Rattle.thy_isa.specs.Step.{State, Setting, served, finished, performed, advanced, is_running, step, steps}

-- a step of an ended state changes nothing
pub step-ended : (g : Setting) (s : State) → is_running s.status ≡ false → step g s ≡ s
unfolding step
step-ended g s h = rw h

-- a step of a state that runs
pub step-running : (g : Setting) (s : State) → is_running s.status ≡ true → step g s ≡ advanced g s
unfolding step
step-running g s h = rw h

pub steps-zero : (g : Setting) (s : State) → steps g 0 s ≡ s
unfolding steps
steps-zero g s = refl

pub steps-one_more : (g : Setting) (k : ℕ) (s : State) → steps g (k + 1) s ≡ step g (steps g k s)
unfolding steps
steps-one_more g k s = ap (λ n. steps g n s) (add-one k)

-- any number of steps of an ended state changes nothing
pub steps-ended : (g : Setting) (k : ℕ) (s : State) → is_running s.status ≡ false → steps g k s ≡ s
unfolding steps
steps-ended g zero s h = refl
steps-ended g (suc k) s h = ap (step g) (steps-ended g k s h) ∙ step-ended g s h

-- j steps and then k are j + k
pub steps-add : (g : Setting) (j k : ℕ) (s : State) → steps g (j + k) s ≡ steps g k (steps g j s)
unfolding steps
steps-add g j zero s = ap (λ n. steps g n s) (add-zero j)
steps-add g j (suc k) s = ap (λ n. steps g n s) (add-suc j k) ∙ ap (step g) (steps-add g j k s)

-- ---- the count

served-count : (c : CpuState) (k : Call) → (served c k).count ≡ c.count + 1
unfolding served
served-count c (Answer v) = refl
served-count c (Exit v) = refl
served-count c (Break at) = refl
served-count c (Take at len) = refl
served-count c (Give at len) = refl

pub finished-count : (c : CpuState) (e : Effect) (n : ℕ) (k : CallState) → (finished c e n k).count ≡ c.count + 1
unfolding finished
finished-count c (Next pc) n k = refl
finished-count c (Set rd pc v) n k = refl
finished-count c (Read rd width extend pc at) n k = refl
finished-count c (Write width pc at v) n k = refl
finished-count c (Reserve rd width pc at) n k = refl
finished-count c (Conditional rd width pc at v) n k = refl
finished-count c (Fail rd pc) n k = refl
finished-count c (Modify op rd width pc at v) n k = refl
finished-count c Environment n k = served-count c (call_of c.regs k)
finished-count c (Trap cause) n k = refl

-- a step of a state that runs adds one to the count
pub step-count : (g : Setting) (s : State) → is_running s.status ≡ true → (step g s).count ≡ s.count + 1
unfolding step advanced performed
step-count g s h = rw h (finished-count _ _ _ _)

by_cases : (b : Bool) (P : Type 0) → (b ≡ true → P) → (b ≡ false → P) → P
by_cases true P t f = t refl
by_cases false P t f = f refl

-- a state that runs after a step ran before it
pub step-was_running : (g : Setting) (s : State) → is_running (step g s).status ≡ true → is_running s.status ≡ true
step-was_running g s h =
    by_cases (is_running s.status) (is_running s.status ≡ true) (λ e. e) (λ e. sym (ap (λ (t : State). is_running t.status) (step-ended g s e)) ∙ h)

-- k steps to a state that runs add k to the count
pub steps-count : (g : Setting) (k : ℕ) (s : State) → is_running (steps g k s).status ≡ true → (steps g k s).count ≡ s.count + k
unfolding steps
steps-count g zero s h = sym (add-zero s.count)
steps-count g (suc k) s h =
    let was : is_running (steps g k s).status ≡ true = step-was_running g (steps g k s) h in
    omega (arith, step-count g (steps g k s) was, steps-count g k s was)
