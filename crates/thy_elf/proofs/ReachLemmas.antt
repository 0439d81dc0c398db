-- Where stores go.
use Rattle.std.proofs.Common.{ℕ, ◌<◌, ◌≤◌, arith}
use Rattle.std.proofs.lemmas.Bool.Decides.{nat_tests}
use Rattle.thy_elf.specs.MadeLaws.{IsInReach}
use Rattle.thy_elf.specs.MadeProgram.{page_of}

-- a page is one of 144
pub page_of-low : (r : ℕ) → 64 ≤ page_of r
page_of-low r = grind (arith, nat_tests)

pub page_of-high : (r : ℕ) → page_of r < 208
page_of-high r = grind (arith, nat_tests)

pub is_in_reach : (r : ℕ) → IsInReach r
is_in_reach r =
    let low = page_of-low r in
    let high = page_of-high r in
    record {
      aligned = omega (arith, low, high);
      behind = omega (arith, low, high);
      within = omega (arith, low, high);
    }
