-- Part of the claim.
-- The number of this scheme, which the header of its images has.
use Rattle.std.specs.Prelude.{ℕ}

abbrev pub scheme_number : ℕ
scheme_number = 0
