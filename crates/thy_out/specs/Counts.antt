-- The calls that are to fail.
use Rattle.std.specs.Prelude.{ℕ, Bool, ◌==◌, List}
use Rattle.std.specs.List.{list_any}
use Rattle.thy_block.specs.Counts.{next}

-- the call after this number of calls is listed
abbrev pub is_listed : List ℕ → ℕ → Bool
is_listed failing calls = list_any (λ n. n == next calls) failing
