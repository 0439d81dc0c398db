-- Part of the claim.
-- Values of fields with their ranges: each range also reads as a test of a number.
use Rattle.std.specs.Prelude.{ℕ, ◌%◌, Bool, true, ◌&&◌, ◌==◌, nat_lt, nat_le, List, [], ◌∷◌, map, Option}
use Rattle.thy_base.specs.declared.config.ConfigError.{ConfigError}
use Rattle.thy_base.specs.declared.config.Field.{Field}
use Rattle.thy_block.specs.Demands.{Demand, asked, first_fault}
use Rattle.thy_block.specs.Ranges.{Range, IsIn, any, above, below, at_most, between, multiple_of, divisor_of, both}

-- the test whether a number is in a range
abbrev pub is_in : Range → ℕ → Bool
is_in any n = true
is_in (above bound) n = nat_lt bound n
is_in (below bound) n = nat_lt n bound
is_in (at_most greatest) n = nat_le n greatest
is_in (between least greatest) n = nat_le least n && nat_le n greatest
is_in (multiple_of unit) n = n % unit == 0
is_in (divisor_of whole) n = whole % n == 0
is_in (both a b) n = is_in a n && is_in b n

-- a number that a field has, and its range
pub record Row : Type 0 where
  pub field : Field
  pub value : ℕ
  pub range : Range

abbrev pub row : Field → ℕ → Range → Row
row field value range = record { field = field; value = value; range = range }

-- each row's number is in its range
abbrev pub AreIn : List Row → Type 0
AreIn [] = Unit {0}
AreIn (r ∷ rs) = IsIn r.range r.value × AreIn rs

-- a row as a demand: the fault is the field with its number
abbrev pub demand_of : Row → Demand ConfigError
demand_of r = asked (is_in r.range r.value) (record { field = r.field; value = r.value })

-- the fault of the first number of these that is not in its range
abbrev pub fault_in : List Row → Option ConfigError
fault_in rows = first_fault (map demand_of rows)
