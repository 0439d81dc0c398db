-- Remainders by one number, and the mask that gives them.
use Rattle.std.specs.Prelude.{◌≡◌, ℕ, ◌%◌, ◌<◌, Option, IfSome, bit_and}

-- the bits of each number that a mask keeps are its remainder
abbrev pub IsMaskOf : ℕ → ℕ → Type 0
IsMaskOf number mask = (n : ℕ) → bit_and n mask ≡ n % number

-- what holds of the parts of a modulus
pub record IsSoundModulus (number : ℕ) (mask : Option ℕ) : Type 0 where
  pub some : 0 < number
  pub masked : IfSome mask (λ m. IsMaskOf number m)
