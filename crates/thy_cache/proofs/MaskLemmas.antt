-- The mask of a power of two.
use Rattle.std.proofs.Common.{◌≡◌, ℕ, ◌-◌, ◌%◌, ◌^◌, bit_and, sym, ◌∙◌, ap}
use Rattle.std.specs.Int.{IsPowerOfTwo}
use Rattle.std.proofs.lemmas.Nat.{and_mask}
use Rattle.thy_cache.specs.Modulus.{IsMaskOf}

-- the bits below a power of two are the remainder by it
pub IsMaskOf-power : (number power : ℕ) → IsPowerOfTwo power → power ≡ number → IsMaskOf number (number - 1)
IsMaskOf-power number power is_power same n =
    let e : number ≡ 2 ^ is_power.0 = sym same ∙ is_power.1 in
    ap (λ m. bit_and n (m - 1)) e ∙ and_mask n is_power.0 ∙ ap (λ m. n % m) (sym e)
