-- What the operations, the loads and the immediates give are numbers of 64 bits.
use Rattle.std.proofs.Common.{ℕ, zero, suc, ◌+◌, ◌-◌, ◌*◌, ◌/◌, ◌%◌, ◌<◌, ◌≤◌, ◌^◌, ◌==◌, Bool, true, false, if◌then◌else◌, nat_lt, ℤ, pos, negsuc, ◌*ℤ◌, neg_ℤ, FitsSigned, int_lt, to_z, of_z, arith, lit<, div-le_self}
use Rattle.std.proofs.Math.Nat.{mod-le}
use Rattle.std.specs.Int.{w32, w64, w128, int_shr}
use Rattle.std.specs.Int.RustNames.{int_div, int_rem}
use Rattle.std.proofs.lemmas.Int.{ints, fits_signed_mul}
use Rattle.std.proofs.lemmas.Nat.{and_le_l, or_lt, xor_lt, shr_le, mul-lt, div_below}
use lib.Signed.{mag, mag_shr, mag_rem, nat_abs-le}
use Rattle.thy_isa.specs.declared.instr.Alu.{Alu}
use Rattle.thy_isa.specs.declared.instr.Alu.TheVariants.{Add, Sub, Sll, Slt, Sltu, Xor, Srl, Sra, Or, And, Mul, Mulh, Mulhsu, Mulhu, Div, Divu, Rem, Remu, Addw, Subw, Sllw, Srlw, Sraw, Mulw, Divw, Divuw, Remw, Remuw}
use Rattle.thy_isa.specs.Arith.{alu_of, low64, low32, sx32}
use Rattle.thy_isa.specs.Storable.{IsNumber}

-- a choice between two numbers of 64 bits is one
pub if_number : (b : Bool) (x y : ℕ) → IsNumber x → IsNumber y → IsNumber (if b then x else y)
if_number true x y p q = p
if_number false x y p q = q

-- ---- signed numbers

to_z_mag64 : (a : ℕ) → a < 2 ^ 64 → mag (to_z w64 a) < 2 ^ 63
to_z_mag64 a h = grind (arith, ints)

to_z_mag32 : (a : ℕ) → a < 2 ^ 32 → mag (to_z w32 a) < 2 ^ 31
to_z_mag32 a h = grind (arith, ints)

pub of_z_number : (z : ℤ) → mag z < 2 ^ 64 → IsNumber (of_z w64 z)
of_z_number (pos n) h = h
of_z_number (negsuc n) h = omega arith

of_z_wide : (z : ℤ) → mag z < 2 ^ 128 → of_z w128 z < 2 ^ 128
of_z_wide (pos n) h = h
of_z_wide (negsuc n) h = omega arith

neg_mag : (n : ℕ) → mag (neg_ℤ (pos n)) ≤ n
neg_mag zero = omega arith
neg_mag (suc n) = omega arith

quot_mag : (x y : ℤ) → mag (int_div x y) ≤ mag x + 1
quot_mag (pos a) (pos b) = omega (arith, div-le_self a b)
quot_mag (pos a) (negsuc b) = omega (arith, neg_mag (a / suc b), div-le_self a (suc b))
quot_mag (negsuc a) (pos b) = omega (arith, neg_mag (suc a / b), div-le_self (suc a) b)
quot_mag (negsuc a) (negsuc b) = omega (arith, div-le_self (suc a) (suc b))

-- the product of two signed numbers of 64 bits, and of one with an unsigned number, fits 128 bits
product_mag : (x y : ℤ) → mag x < 2 ^ 63 → mag y < 2 ^ 63 → mag (x *ℤ y) < 2 ^ 128
product_mag x y p q =
    let f : FitsSigned w128 (x *ℤ y) = fits_signed_mul w128 x y (2 ^ 63) (2 ^ 63) (nat_abs-le x p) (nat_abs-le y q) (lit< tt) in
    let h : mag (x *ℤ y) < 2 ^ 127 = f.sfits in
    omega arith

mixed_mag : (x : ℤ) (b : ℕ) → mag x < 2 ^ 63 → b < 2 ^ 64 → mag (x *ℤ pos b) < 2 ^ 128
mixed_mag x b p q =
    let f : FitsSigned w128 (x *ℤ pos b) = fits_signed_mul w128 x (pos b) (2 ^ 63) (2 ^ 64 - 1) (nat_abs-le x p) (omega arith) (lit< tt) in
    let h : mag (x *ℤ pos b) < 2 ^ 127 = f.sfits in
    omega arith

high_number : (n : ℕ) → n < 2 ^ 128 → IsNumber (n / 2 ^ 64)
high_number n h = div_below n (2 ^ 64) (2 ^ 64) (lit< tt) (omega arith)

-- ---- operations

pub low64_number : (v : ℕ) → IsNumber (low64 v)
low64_number v = omega arith

sx32_number : (v : ℕ) → IsNumber (sx32 v)
sx32_number v = if_number (nat_lt (low32 v) (2 ^ 31)) _ _ (omega arith) (omega arith)

sra_number : (z : ℤ) (k : ℕ) → mag z < 2 ^ 63 → IsNumber (of_z w64 (int_shr z k))
sra_number z k h = of_z_number (int_shr z k) (omega (arith, mag_shr z (2 ^ k)))

quotient_number : (a b : ℕ) → IsNumber a → IsNumber (alu_of Div a b)
unfolding alu_of
quotient_number a b h =
    if_number (b == 0) _ _ (lit< tt)
    (of_z_number (int_div (to_z w64 a) (to_z w64 b)) (omega (arith, quot_mag (to_z w64 a) (to_z w64 b), to_z_mag64 a h)))

remainder_number : (a b : ℕ) → IsNumber a → IsNumber (alu_of Rem a b)
unfolding alu_of
remainder_number a b h =
    if_number (b == 0) _ _ h (of_z_number (int_rem (to_z w64 a) (to_z w64 b)) (omega (arith, mag_rem (to_z w64 a) (to_z w64 b), to_z_mag64 a h)))

-- what an operation gives for two numbers of 64 bits is one
pub alu_of-number : (op : Alu) (a b : ℕ) → IsNumber a → IsNumber b → IsNumber (alu_of op a b)
unfolding alu_of
alu_of-number Add a b p q = low64_number _
alu_of-number Sub a b p q = low64_number _
alu_of-number Sll a b p q = low64_number _
alu_of-number Slt a b p q = if_number (int_lt (to_z w64 a) (to_z w64 b)) _ _ (lit< tt) (lit< tt)
alu_of-number Sltu a b p q = if_number (nat_lt a b) _ _ (lit< tt) (lit< tt)
alu_of-number Xor a b p q = xor_lt 64 a b p q
alu_of-number Srl a b p q = omega (arith, shr_le a (b % 64))
alu_of-number Sra a b p q = sra_number (to_z w64 a) (b % 64) (to_z_mag64 a p)
alu_of-number Or a b p q = or_lt 64 a b p q
alu_of-number And a b p q = omega (arith, and_le_l a b)
alu_of-number Mul a b p q = low64_number _
alu_of-number Mulh a b p q =
    high_number _ (of_z_wide (to_z w64 a *ℤ to_z w64 b) (product_mag (to_z w64 a) (to_z w64 b) (to_z_mag64 a p) (to_z_mag64 b q)))
alu_of-number Mulhsu a b p q = high_number _ (of_z_wide (to_z w64 a *ℤ pos b) (mixed_mag (to_z w64 a) b (to_z_mag64 a p) q))
alu_of-number Mulhu a b p q = high_number (a * b) (mul-lt a b (2 ^ 64) (2 ^ 64) p q)
alu_of-number Div a b p q = quotient_number a b p
alu_of-number Divu a b p q = if_number (b == 0) _ _ (lit< tt) (omega (arith, div-le_self a b))
alu_of-number Rem a b p q = remainder_number a b p
alu_of-number Remu a b p q = if_number (b == 0) _ _ p (omega (arith, mod-le a b))
alu_of-number Addw a b p q = sx32_number _
alu_of-number Subw a b p q = sx32_number _
alu_of-number Sllw a b p q = sx32_number _
alu_of-number Srlw a b p q = sx32_number _
alu_of-number Sraw a b p q = sra_number (to_z w32 (low32 a)) (b % 32) (omega (arith, to_z_mag32 (low32 a) (omega arith)))
alu_of-number Mulw a b p q = sx32_number _
alu_of-number Divw a b p q = if_number (low32 b == 0) _ _ (lit< tt) (sx32_number _)
alu_of-number Divuw a b p q = if_number (low32 b == 0) _ _ (lit< tt) (sx32_number _)
alu_of-number Remw a b p q = if_number (low32 b == 0) _ _ (sx32_number _) (sx32_number _)
alu_of-number Remuw a b p q = if_number (low32 b == 0) _ _ (sx32_number _) (sx32_number _)
