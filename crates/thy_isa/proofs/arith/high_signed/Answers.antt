-- The product of two signed numbers of 64 bits fits 128 bits, so no conversion on the way changes it.
use Rattle.std.proofs.Common.{◌≡◌, ◌<◌, ◌≤◌, ◌^◌, ◌/◌, ℕ, ℤ, pos, negsuc, ◌*ℤ◌, FitsSigned, unsigned_abs, to_z, of_z, arith, ap, ◌∙◌, lit<}
use Rattle.std.specs.Int.{w64, w128}
use Rattle.std.proofs.lemmas.Int.{to_z-of_z, fits_signed_mul}
use lib.Signed.{mag}
use Rattle.thy_isa.specs.Arith.{alu_of}
use Rattle.thy_isa.proofs.arith.high_signed.Goals as goal

abs_le : (m : ℕ) (z : ℤ) → mag z < m → unsigned_abs z ≤ m
abs_le m (pos n) h = omega arith
abs_le m (negsuc n) h = omega arith

product_fits : (x y : ℤ) → mag x < 2 ^ 63 → mag y < 2 ^ 63 → FitsSigned w128 (x *ℤ y)
product_fits x y p q = fits_signed_mul w128 x y (2 ^ 63) (2 ^ 63) (abs_le _ x p) (abs_le _ y q) (lit< tt)

kept : (x y f g : ℤ) (r : ℕ) → f ≡ x → g ≡ y → FitsSigned w128 f → FitsSigned w128 g → FitsSigned w128 (x *ℤ y)
    → r ≡ of_z w128 (to_z w128 (of_z w128 (to_z w128 (of_z w128 f) *ℤ to_z w128 (of_z w128 g)))) → r ≡ of_z w128 (x *ℤ y)
kept x y f g r p q ff fg fp e = cc (to_z-of_z w128 f ff, to_z-of_z w128 g fg, to_z-of_z w128 (x *ℤ y) fp)

pub returns : goal.returns
unfolding alu_of
returns c =
    let x : ℤ = c.cast_signed.result in
    let y : ℤ = c.cast_signed-2.result in
    let p : mag x < 2 ^ 63 = c.cast_signed.type_inv in
    let q : mag y < 2 ^ 63 = c.cast_signed-2.type_inv in
    let fx : FitsSigned w64 x = record { sfits = p } in
    let fy : FitsSigned w64 y = record { sfits = q } in
    let ff : FitsSigned w128 c.from.result = record { sfits = c.from.type_inv } in
    let fg : FitsSigned w128 c.from-2.result = record { sfits = c.from-2.type_inv } in
    let r : c.cast_unsigned.result ≡ of_z w128 (x *ℤ y) =
    kept x y c.from.result c.from-2.result c.cast_unsigned.result (c.from.ensures ∙ to_z-of_z w64 x fx)
    (c.from-2.ensures ∙ to_z-of_z w64 y fy) ff fg (product_fits x y p q) c.cast_unsigned.ensures in
    let same : x *ℤ y ≡ to_z w64 c.args.a *ℤ to_z w64 c.args.b = cc (c.cast_signed.ensures, c.cast_signed-2.ensures) in
    ap (λ n. n / 2 ^ 64) (r ∙ ap (of_z w128) same)
