-- How many writes each place of a device has taken.
use Rattle.std.specs.Prelude.{◌≡◌, ℕ, ◌-◌, ◌^◌, ◌<◌, nat_lt, if◌then◌else◌, cond, Bool, List, length, fold, get_or, sum, replicate, slice_set, All}
use Rattle.thy_block.specs.Counts.{next}

-- one write more to a place, of which there may be no count
abbrev pub worn_at : List ℕ → ℕ → List ℕ
worn_at wear at = if nat_lt at (length wear) then slice_set wear at (next (get_or wear at 0)) else wear

-- counts of 0, one for each place, if they are wanted; else none
abbrev pub unworn : Bool → ℕ → List ℕ
unworn wanted blocks = replicate (cond wanted blocks 0) 0

-- the counts of all places after writes to these, in order
abbrev pub worn_by : ℕ → List ℕ → List ℕ
worn_by blocks places = fold worn_at (replicate blocks 0) places

-- no count is lost: as long as none has come to its last value, they add up to the writes
abbrev pub WearAddsUp : Type 0
WearAddsUp =
    (blocks : ℕ) (places : List ℕ) → All (λ at. at < blocks) places → length places < 2 ^ 64 - 1
    → sum (worn_by blocks places) ≡ length places
