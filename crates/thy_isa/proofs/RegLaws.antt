-- The number of register 0 is always 0: a read needs no test, and a write none if 0 is written there after it.
use Rattle.std.proofs.Common.{◌≡◌, ◌≢◌, ℕ, zero, suc, ◌<◌, List, [], ◌∷◌, length, refl, sym, ap, ◌∙◌, arith}
use Rattle.std.proofs.lemmas.Bool.Decides.{nat_tests}
use Rattle.std.specs.Prelude.{slice_index, slice_set}
use Rattle.thy_isa.specs.Regs.{reg_at, regs_with}

-- what stands there is what the register reads as
pub read_at : (l : List ℕ) (r : ℕ) → slice_index l 0 ≡ 0 → slice_index l r ≡ reg_at l r
read_at l r first = grind (arith, nat_tests)

-- the number of register 0 after a write of 0 there
pub zero_again : (l : List ℕ) → 0 < length l → slice_index (slice_set l 0 0) 0 ≡ 0
zero_again [] some = absurd (omega (arith, some))
zero_again (x ∷ l) some = refl

first_back : (l : List ℕ) (v : ℕ) → slice_index l 0 ≡ 0 → 0 < length l → slice_set (slice_set l 0 v) 0 0 ≡ l
first_back [] v first some = absurd (omega (arith, some))
first_back (x ∷ l) v first some = ap (λ (y : ℕ). y ∷ l) (sym first)

other_stays : (l : List ℕ) (r v : ℕ) → slice_index l 0 ≡ 0 → slice_set (slice_set l (suc r) v) 0 0 ≡ slice_set l (suc r) v
other_stays [] r v first = refl
other_stays (x ∷ l) r v first = ap (λ (y : ℕ). y ∷ slice_set l r v) (sym first)

other_written : (l : List ℕ) (r v : ℕ) → regs_with l (suc r) v ≡ slice_set l (suc r) v
other_written l r v = grind (arith, nat_tests)

-- a register is written, and then 0 to register 0
pub written_is : (l : List ℕ) (r v : ℕ) → slice_index l 0 ≡ 0 → 0 < length l → slice_set (slice_set l r v) 0 0 ≡ regs_with l r v
written_is l zero v first some = first_back l v first some
written_is l (suc r) v first some = other_stays l r v first ∙ sym (other_written l r v)
