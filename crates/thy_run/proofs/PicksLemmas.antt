-- Schedules in turn after picks that nobody asks for.
use Rattle.std.proofs.Common.{◌≡◌, ◌≢◌, ◌<◌, ℕ, zero, suc, ◌+◌, ◌-◌, ◌%◌, ◌==◌, Bool, false, if◌then◌else◌, refl, sym, ◌∙◌, ap, subst, arith}
use Rattle.std.proofs.lemmas.Bool.{ne_eqb}
use Rattle.thy_block.specs.declared.mix.Mix.{Mix}
use Rattle.thy_block.specs.declared.mix.Mix.TheVariants.{InTurn}
use Rattle.thy_block.specs.declared.mix.Pick.{Pick}
use Rattle.thy_block.specs.declared.mix.Pick.TheVariants.{Hart, Second, Engine, NvmDrain, DramDrain}
use Rattle.thy_block.specs.Mix.{after_pick, pick_of_four, pick_of_five, mix_next}
use Rattle.thy_run.specs.Picks.{after_picks, place_of_four, place_of_five}

-- one pick more
pub after_picks-more : (harts k : ℕ) (mix : Mix) → mix_next harts (after_picks harts k mix) ≡ after_picks harts (k + 1) mix
after_picks-more harts k mix =
    let e : suc k ≡ k + 1 = omega arith in
    ap (λ (j : ℕ). after_picks harts j mix) e

-- ---- four actors

after_four : (t : Pick) → after_pick 1 t ≡ pick_of_four ((place_of_four t + 1) % 4)
after_four Hart = refl
after_four Second = refl
after_four Engine = refl
after_four NvmDrain = refl
after_four DramDrain = refl

place_at_four : (n : ℕ) → n < 4 → place_of_four (pick_of_four n) ≡ n
place_at_four zero few = refl
place_at_four (suc zero) few = refl
place_at_four (suc (suc zero)) few = refl
place_at_four (suc (suc (suc zero))) few = refl
place_at_four (suc (suc (suc (suc n)))) few = absurd (omega (arith, few))

step_four : (m : ℕ) → after_pick 1 (pick_of_four (m % 4)) ≡ pick_of_four ((m + 1) % 4)
step_four m =
    let few : m % 4 < 4 = omega arith in
    let next : (m % 4 + 1) % 4 ≡ (m + 1) % 4 = omega arith in
    after_four (pick_of_four (m % 4)) ∙ ap (λ (n : ℕ). pick_of_four ((n + 1) % 4)) (place_at_four (m % 4) few) ∙ ap pick_of_four next

in_turn_four : (k : ℕ) (t : Pick) → after_picks 1 (suc k) (InTurn t) ≡ InTurn (pick_of_four ((place_of_four t + suc k) % 4))
in_turn_four zero t = ap InTurn (after_four t)
in_turn_four (suc k) t =
    let more : place_of_four t + suc k + 1 ≡ place_of_four t + suc (suc k) = omega arith in
    ap (mix_next 1) (in_turn_four k t) ∙ ap InTurn (step_four (place_of_four t + suc k)) ∙ ap (λ (n : ℕ). InTurn (pick_of_four (n % 4))) more

-- whose turn it is of four, after some picks
pub turn_of_four : (harts k : ℕ) (t : Pick) → harts ≡ 1 → 0 < k → InTurn (pick_of_four ((place_of_four t + k) % 4)) ≡ after_picks harts k (InTurn t)
turn_of_four harts k t one some =
    let e : suc (k - 1) ≡ k = omega (arith, some) in
    subst (λ (h : ℕ). InTurn (pick_of_four ((place_of_four t + k) % 4)) ≡ after_picks h k (InTurn t)) (sym one)
    (subst (λ (n : ℕ). InTurn (pick_of_four ((place_of_four t + n) % 4)) ≡ after_picks 1 n (InTurn t)) e (sym (in_turn_four (k - 1) t)))

-- ---- five actors

after_five : (harts : ℕ) (t : Pick) → (harts == 1) ≡ false → after_pick harts t ≡ pick_of_five ((place_of_five t + 1) % 5)
after_five harts Hart two = ap (λ (b : Bool). if b then Engine else Second) two
after_five harts Second two = refl
after_five harts Engine two = refl
after_five harts NvmDrain two = refl
after_five harts DramDrain two = refl

place_at_five : (n : ℕ) → n < 5 → place_of_five (pick_of_five n) ≡ n
place_at_five zero few = refl
place_at_five (suc zero) few = refl
place_at_five (suc (suc zero)) few = refl
place_at_five (suc (suc (suc zero))) few = refl
place_at_five (suc (suc (suc (suc zero)))) few = refl
place_at_five (suc (suc (suc (suc (suc n))))) few = absurd (omega (arith, few))

step_five : (harts m : ℕ) → (harts == 1) ≡ false → after_pick harts (pick_of_five (m % 5)) ≡ pick_of_five ((m + 1) % 5)
step_five harts m two =
    let few : m % 5 < 5 = omega arith in
    let next : (m % 5 + 1) % 5 ≡ (m + 1) % 5 = omega arith in
    after_five harts (pick_of_five (m % 5)) two ∙ ap (λ (n : ℕ). pick_of_five ((n + 1) % 5)) (place_at_five (m % 5) few) ∙ ap pick_of_five next

in_turn_five : (harts k : ℕ) (t : Pick) → (harts == 1) ≡ false → after_picks harts (suc k) (InTurn t) ≡ InTurn (pick_of_five ((place_of_five t + suc k) % 5))
in_turn_five harts zero t two = ap InTurn (after_five harts t two)
in_turn_five harts (suc k) t two =
    let more : place_of_five t + suc k + 1 ≡ place_of_five t + suc (suc k) = omega arith in
    ap (mix_next harts) (in_turn_five harts k t two) ∙ ap InTurn (step_five harts (place_of_five t + suc k) two)
    ∙ ap (λ (n : ℕ). InTurn (pick_of_five (n % 5))) more

-- whose turn it is of five, after some picks
pub turn_of_five : (harts k : ℕ) (t : Pick) → harts ≢ 1 → 0 < k → InTurn (pick_of_five ((place_of_five t + k) % 5)) ≡ after_picks harts k (InTurn t)
turn_of_five harts k t more some =
    let e : suc (k - 1) ≡ k = omega (arith, some) in
    subst (λ (n : ℕ). InTurn (pick_of_five ((place_of_five t + n) % 5)) ≡ after_picks harts n (InTurn t)) e (sym (in_turn_five harts (k - 1) t (ne_eqb harts 1 more)))
