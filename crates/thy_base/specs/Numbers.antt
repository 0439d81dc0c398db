-- Part of the claim.
-- How numbers and lists of numbers are written in arguments.
use Rattle.std.specs.Prelude.{◌==◌, ◌&&◌, ℕ, Bool, List, Option, Some, None, if◌then◌else◌}
use Rattle.std.specs.Prelude.{length, nat_le, nat_lt, map, unwrap_or}
use Rattle.std.specs.List.{list_all, slice_split}
use Rattle.std.specs.Char.{is_ascii_digit}
use Rattle.std.specs.Str.Parse.{digits_value}
use Rattle.clap.specs.Walk.{Text}

-- 1 to 19 decimal digits, with no sign
unfoldable pub is_number : Text → Bool
is_number t = nat_lt 0 (length t) && (nat_le (length t) 19 && list_all is_ascii_digit t)

-- the number that a text writes; leading zeros are accepted
unfoldable pub number_in : Text → Option ℕ
number_in t = if is_number t then Some (digits_value 10 t) else None

-- the texts between the commas
abbrev pub pieces : Text → List Text
pieces = slice_split (λ b. b == 44)

-- a text is one number or more, with a comma between each two
abbrev pub is_list : Text → Bool
is_list t = list_all is_number (pieces t)

-- the number that a text writes, or 0 if it does not write one
unfoldable pub number_or_zero : Text → ℕ
number_or_zero t = unwrap_or (number_in t) 0

-- the numbers of a list
abbrev pub numbers_in : Text → List ℕ
numbers_in t = map number_or_zero (pieces t)
