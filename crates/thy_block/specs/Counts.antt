-- Part of the claim.
-- Counts of faults, which stop at the last value of a 64-bit number.
use Rattle.std.specs.Prelude.{ℕ, ◌+◌, ◌-◌, ◌^◌, ◌≤◌, min}

-- a count after one fault more, but never past the last value
abbrev pub next : ℕ → ℕ
next n = min (n + 1) (2 ^ 64 - 1)

-- A count rose. One at its last value saturates there.
pub record Rose (old new : ℕ) : Type 0 where
  pub no_less : old ≤ new
  pub more : next old ≤ new

-- a count rose by one, or stayed at its last value
pub record RoseByOne (old new : ℕ) : Type 0 where
  pub no_less : old ≤ new
  pub more : next old ≤ new
  pub by_one : new ≤ old + 1
