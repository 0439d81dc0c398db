-- What a call takes, gives or makes the break is fit: inside memory, within the input left, the room left, the bounds.
use Rattle.std.proofs.Common.{◌≡◌, ℕ, ◌+◌, ◌-◌, ◌%◌, ◌<◌, ◌≤◌, ◌==◌, ◌&&◌, ◌||◌, Bool, true, false, not, nat_le, if◌then◌else◌, List, refl, arith}
use Rattle.std.proofs.lemmas.Bool.Decides.{nat_tests}
use Rattle.std.proofs.lemmas.Bool.{and_parts}
use Rattle.thy_block.specs.Inside.{is_inside}
use Rattle.thy_block.proofs.InsideLemmas.{is_inside-true}
use Rattle.thy_isa.specs.declared.state.Call.{Call}
use Rattle.thy_isa.specs.declared.state.Call.TheVariants.{Answer, Exit, Break, Take, Give}
use Rattle.thy_isa.specs.declared.state.CallState.{CallState}
use Rattle.thy_isa.specs.Calls.{a0, a1, a2, a7, refusal, few, read_of, write_of, first_sp, break_of, call_of, IsMoved, IsFit}

-- a fact of a choice between two calls
pub if_call : (P : Call → Type 0) (b : Bool) (j k : Call) → (b ≡ true → P j) → (b ≡ false → P k) → P (if b then j else k)
if_call P true j k p q = p refl
if_call P false j k p q = q refl

zero_not : (n : ℕ) → (n == 0) ≡ false → 1 ≤ n
zero_not n h = grind (arith, nat_tests)

le_not : (a b : ℕ) → nat_le a b ≡ false → b < a
le_not a b h = grind (arith, nat_tests)

le_true : (a b : ℕ) → nat_le a b ≡ true → a ≤ b
le_true a b h = grind (arith, nat_tests)

-- some of what is asked for is moved if some is left, and all of it is inside
moved : (c : CallState) (at count left : ℕ) → 1 ≤ count → 1 ≤ left → is_inside c.base c.size at (few count left) ≡ true
    → IsMoved c at (few count left)
moved c at count left some more inside =
    let bounds = is_inside-true c.base c.size at (few count left) inside in
    record { some = omega arith; most = omega arith; low = bounds.0; high = bounds.1 }

read_of-fit : (descriptor at count : ℕ) (c : CallState) → IsFit c (read_of descriptor at count c)
unfolding read_of
read_of-fit descriptor at count c =
    let left = c.input_len - c.cursor in
    if_call (IsFit c) (not (descriptor == 0)) _ _ (λ _. tt) (λ _.
    if_call (IsFit c) (count == 0) _ _ (λ _. tt) (λ some.
    if_call (IsFit c) (nat_le c.input_len c.cursor) _ _ (λ _. tt) (λ more.
    let before = le_not c.input_len c.cursor more in
    if_call (IsFit c) (is_inside c.base c.size at (few count left)) (Take at (few count left)) (Answer (refusal 14))
    (λ inside. (moved c at count left (zero_not count some) (omega arith) inside, omega arith))
    (λ _. tt))))

write_of-fit : (descriptor at count : ℕ) (c : CallState) → IsFit c (write_of descriptor at count c)
unfolding write_of
write_of-fit descriptor at count c =
    if_call (IsFit c) (not (descriptor == 1 || descriptor == 2)) _ _ (λ _. tt) (λ _.
    if_call (IsFit c) (count == 0) _ _ (λ _. tt) (λ some.
    if_call (IsFit c) (c.room == 0) _ _ (λ _. tt) (λ more.
    if_call (IsFit c) (is_inside c.base c.size at (few count c.room)) (Give at (few count c.room)) (Answer (refusal 14))
    (λ inside. (moved c at count c.room (zero_not count some) (zero_not c.room more) inside, omega arith))
    (λ _. tt))))

break_of-fit : (at : ℕ) (c : CallState) → IsFit c (break_of at c)
unfolding break_of
break_of-fit at c =
    if_call (IsFit c) (nat_le c.floor at && nat_le (at + 65536) (first_sp c)) (Break at) (Answer c.brk)
    (λ h.
    let bounds = and_parts (nat_le c.floor at) (nat_le (at + 65536) (first_sp c)) h in
    (le_true c.floor at bounds.0, le_true (at + 65536) (first_sp c) bounds.1))
    (λ _. tt)

-- every environment call is fit
pub call_of-fit : (x : List ℕ) (c : CallState) → IsFit c (call_of x c)
unfolding call_of
call_of-fit x c =
    if_call (IsFit c) (a7 x == 63) (read_of (a0 x) (a1 x) (a2 x) c) _ (λ _. read_of-fit (a0 x) (a1 x) (a2 x) c) (λ _.
    if_call (IsFit c) (a7 x == 64) (write_of (a0 x) (a1 x) (a2 x) c) _ (λ _. write_of-fit (a0 x) (a1 x) (a2 x) c) (λ _.
    if_call (IsFit c) (a7 x == 93 || a7 x == 94) (Exit (a0 x % 256)) _ (λ _. omega arith) (λ _.
    if_call (IsFit c) (a7 x == 214) (break_of (a0 x) c) (Answer (refusal 38)) (λ _. break_of-fit (a0 x) c) (λ _. tt))))
