-- Part of the claim.
-- Ranges of numbers, and numbers with their ranges.
use Rattle.std.specs.Prelude.{◌≡◌, ◌<◌, ◌≤◌, ℕ, ◌%◌, List, [], ◌∷◌}

pub data Range : Type 0 where
  any : Range
  above : ℕ → Range
  below : ℕ → Range
  at_most : ℕ → Range
  between : ℕ → ℕ → Range
  multiple_of : ℕ → Range
  divisor_of : ℕ → Range
  both : Range → Range → Range

-- a number is in a range
abbrev pub IsIn : Range → ℕ → Type 0
IsIn any n = Unit {0}
IsIn (above bound) n = bound < n
IsIn (below bound) n = n < bound
IsIn (at_most greatest) n = n ≤ greatest
IsIn (between least greatest) n = (least ≤ n) × (n ≤ greatest)
IsIn (multiple_of unit) n = n % unit ≡ 0
IsIn (divisor_of whole) n = whole % n ≡ 0
IsIn (both a b) n = IsIn a n × IsIn b n

-- a number, and its range
pub record Bounded : Type 0 where
  pub value : ℕ
  pub range : Range

abbrev pub bounded : ℕ → Range → Bounded
bounded value range = record { value = value; range = range }

-- each of these numbers is in its range
abbrev pub AreWithin : List Bounded → Type 0
AreWithin [] = Unit {0}
AreWithin (n ∷ ns) = IsIn n.range n.value × AreWithin ns
