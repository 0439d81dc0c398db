-- What a range inside another says of its ends.
use Rattle.std.proofs.Common.{◌≡◌, ℕ, ◌+◌, ◌≤◌, true, arith}
use Rattle.std.proofs.lemmas.Bool.Decides.{nat_tests}
use Rattle.thy_block.specs.Inside.{is_inside}

pub is_inside-true : (base size at n : ℕ) → is_inside base size at n ≡ true → (base ≤ at) × (at + n ≤ base + size)
is_inside-true base size at n h = (grind (arith, nat_tests), grind (arith, nat_tests))
