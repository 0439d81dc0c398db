-- Part of the claim.
-- A range of addresses inside another.
use Rattle.std.specs.Prelude.{ℕ, ◌+◌, Bool, ◌&&◌, nat_le}

-- n bytes at an address lie within a memory of that base and size
abbrev pub is_inside : ℕ → ℕ → ℕ → ℕ → Bool
is_inside base size at n = nat_le base at && nat_le (at + n) (base + size)
