-- The part of program memory in which one comparison shows that bytes lie inside.
use Rattle.std.specs.Prelude.{◌≡◌, ℕ, ◌+◌, ◌*◌, ◌%◌, ◌^◌, ◌<◌, ◌≤◌}

-- at each of the first `window` offsets from the base there are 8 bytes of memory, which ends below 2 ^ 64; no offset is one of
-- these if they are 0
pub record IsWindow (base size window : ℕ) : Type 0 where
  pub bytes : 0 < window → window + 7 ≤ size
  pub ends : 0 < window → base + size < 2 ^ 64

-- this many words from the base on lie in memory, which ends below 2 ^ 64, and the base is a multiple of four
pub record HasWords (base size words : ℕ) : Type 0 where
  pub aligned : 0 < words → base % 4 ≡ 0
  pub bytes : 4 * words ≤ size
  pub ends : 0 < words → base + size < 2 ^ 64
