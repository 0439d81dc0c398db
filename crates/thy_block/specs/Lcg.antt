-- Part of the claim.
-- The draws of a seed.
use Rattle.std.specs.Prelude.{ℕ, ◌+◌, ◌*◌, ◌/◌, ◌%◌, ◌^◌}

-- the state after one draw
unfoldable pub lcg_next : ℕ → ℕ
lcg_next state = (state * 6364136223846793005 + 1442695040888963407) % 2 ^ 64

-- the draw that a new state gives
abbrev pub lcg_draw : ℕ → ℕ
lcg_draw state = state / 2 ^ 33
