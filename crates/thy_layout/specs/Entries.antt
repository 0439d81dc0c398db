-- Part of the claim.
-- Entries of a table, each of which lists a number or is empty, and their words.
use Rattle.std.specs.Prelude.{◌≡◌, ℕ, ◌==◌, ◌<◌, Bool, false, List, slice_index_or, Option, Some, None, ◌+◌, ◌-◌, ◌^◌, if◌then◌else◌}
use Rattle.std.specs.List.{position}

-- entry i of a table; there is none past the table's end
abbrev pub entry_at : List (Option ℕ) → ℕ → Option ℕ
entry_at table i = slice_index_or table i None

-- entry i of a table lists this number
pub record Lists (table : List (Option ℕ)) (i n : ℕ) : Type 0 where
  pub is : entry_at table i ≡ Some n

-- an entry lists this number
abbrev pub is_entry_of : ℕ → Option ℕ → Bool
is_entry_of n None = false
is_entry_of n (Some m) = m == n

-- the first entry that lists this number
abbrev pub entry_of : List (Option ℕ) → ℕ → Option ℕ
entry_of table n = position (is_entry_of n) table

-- an entry as a word: 0 if it is empty, else one more than the number that it lists
abbrev pub entry_word : Option ℕ → ℕ
entry_word None = 0
entry_word (Some n) = n + 1

-- the entry of a word
abbrev pub entry_from : ℕ → Option ℕ
entry_from w = if w == 0 then None else Some (w - 1)

-- each number that is listed has a word
pub record HaveWords (entries : List (Option ℕ)) : Type 0 where
  pub each : (i n : ℕ) → Lists entries i n → n < 2 ^ 64 - 1
