-- The lowest place, from one on, for which a write is queued.
use Rattle.std.specs.Prelude.{◌≡◌, ℕ, ◌<◌, ◌≤◌, nat_lt, if◌then◌else◌, List, [], ◌∷◌, length, Option, Some, None}
use Rattle.thy_block.specs.declared.nvm.Write.{Write}
use Rattle.thy_block.specs.Device.{queued_for}

-- a write is queued for this place, which is not below the first one, and none for those in between
pub record IsLowest (queue : List Write) (from x : ℕ) : Type 0 where
  pub not_below : from ≤ x
  pub queued : 0 < length (queued_for queue x)
  pub others : (y : ℕ) → from ≤ y → y < x → queued_for queue y ≡ []

-- this place is the lowest one with a queued write; or there is none
abbrev pub IsLowestOf : List Write → ℕ → Option ℕ → Type 0
IsLowestOf queue from None = (y : ℕ) → from ≤ y → queued_for queue y ≡ []
IsLowestOf queue from (Some x) = IsLowest queue from x

-- of a place, if there is one, and another, unless that is below the first one, the lower
abbrev pub lower : ℕ → Option ℕ → ℕ → Option ℕ
lower from None at = if nat_lt at from then None else Some at
lower from (Some x) at = if nat_lt at from then Some x else if nat_lt at x then Some at else Some x

-- the lowest of a place, if there is one, and the places of writes that are not below `from`
abbrev pub lowest_over : ℕ → Option ℕ → List Write → Option ℕ
lowest_over from lowest [] = lowest
lowest_over from lowest (w ∷ ws) = lowest_over from (lower from lowest w.at) ws
