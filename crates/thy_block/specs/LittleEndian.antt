-- Part of the claim.
-- Numbers in a list of bytes, the lowest byte first.
use Rattle.std.specs.Prelude.{ℕ, List}
use Rattle.byteorder.specs.Endian.{little_from, little_bytes}

-- the number of the n bytes from index i on
unfoldable pub number_at : ℕ → List ℕ → ℕ → ℕ
number_at n bytes i = little_from i n bytes

-- the low n bytes of a number
unfoldable pub number_bytes : ℕ → ℕ → List ℕ
number_bytes n v = little_bytes n v
