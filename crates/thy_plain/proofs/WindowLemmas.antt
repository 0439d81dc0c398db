-- Where an address lies whose offset is one of the window.
use Rattle.std.proofs.Common.{◌≡◌, ℕ, ◌+◌, ◌-◌, ◌*◌, ◌/◌, ◌%◌, ◌^◌, ◌<◌, ◌≤◌, ◌==◌, Bool, true, false, if◌then◌else◌, Some, None, refl, arith}
use Rattle.std.proofs.lemmas.Bool.Decides.{nat_tests}
use Rattle.thy_block.specs.Inside.{is_inside}
use Rattle.thy_isa.specs.declared.state.Cause.TheVariants.{FetchMisaligned, FetchAccess}
use Rattle.thy_isa.specs.Step.{fetch_fault}
use Rattle.thy_plain.specs.Window.{HasWords, IsWindow}

-- the address is not below the base, so nothing was borrowed
pub not-below : (base size window at : ℕ) → base < 2 ^ 64 → at < 2 ^ 64 → IsWindow base size window
    → (at + (2 ^ 64 - base)) % 2 ^ 64 < window → (base ≤ at) × ((at + (2 ^ 64 - base)) % 2 ^ 64 ≡ at - base)
not-below base size window at b a w h =
    let some : 0 < window = omega (arith, h) in
    (omega (arith, b, a, h, w.bytes some, w.ends some), omega (arith, b, a, h, w.bytes some, w.ends some))

-- at most 8 bytes there lie inside
pub window-fits : (base size window at n : ℕ) → base < 2 ^ 64 → at < 2 ^ 64 → n ≤ 8 → IsWindow base size window
    → (at + (2 ^ 64 - base)) % 2 ^ 64 < window → (at + (2 ^ 64 - base)) % 2 ^ 64 + n ≤ size
window-fits base size window at n b a few w h = omega (arith, few, h, w.bytes (omega (arith, h)))

pub window-inside : (base size window at n : ℕ) → base < 2 ^ 64 → at < 2 ^ 64 → n ≤ 8 → IsWindow base size window
    → (at + (2 ^ 64 - base)) % 2 ^ 64 < window → is_inside base size at n ≡ true
window-inside base size window at n b a few w h =
    let found = not-below base size window at b a w h in
    let low : base ≤ at = found.0 in
    let high : at + n ≤ base + size = omega (arith, found.0, found.1, window-fits base size window at n b a few w h) in
    grind (arith, nat_tests)

fault_by : (a b : Bool) → a ≡ true → b ≡ true → (if a then (if b then None else Some FetchAccess) else Some FetchMisaligned) ≡ None
fault_by true true one two = refl
fault_by true false one two = cc
fault_by false b one two = cc

-- ---- the word at an address

-- the address as an offset from the base, which wraps around below it
abbrev pub offset_from : ℕ → ℕ → ℕ
offset_from base at = (at + (2 ^ 64 - base)) % 2 ^ 64

-- a number with its low two bits in front
abbrev pub turned : ℕ → ℕ
turned n = n % 4 * 2 ^ 62 + n / 4

-- what an offset is whose word is one of memory
pub record IsWord (base size pc : ℕ) : Type 0 where
  pub whole : offset_from base pc % 4 ≡ 0
  pub low : base ≤ pc
  pub same : offset_from base pc ≡ pc - base
  pub fits : offset_from base pc + 4 ≤ size
  pub aligned : base % 4 ≡ 0

pub word-is : (base size words pc : ℕ) → base < 2 ^ 64 → pc < 2 ^ 64 → HasWords base size words
    → turned (offset_from base pc) < words → IsWord base size pc
word-is base size words pc b a w h =
    let some : 0 < words = omega (arith, h) in
    let ends : base + size < 2 ^ 64 = w.ends some in
    let few : words < 2 ^ 62 = omega (arith, w.bytes, ends) in
    let whole : offset_from base pc % 4 ≡ 0 = omega (arith, h, few) in
    let fits : offset_from base pc + 4 ≤ size = omega (arith, h, whole, w.bytes) in
    record {
      whole = whole;
      low = omega (arith, b, a, ends, fits);
      same = omega (arith, b, a, ends, fits);
      fits = fits;
      aligned = w.aligned some;
    }

-- a word of memory can be fetched
pub word-fetched : (base size pc : ℕ) → IsWord base size pc → fetch_fault base size pc ≡ None
unfolding fetch_fault
word-fetched base size pc w =
    let low : base ≤ pc = w.low in
    let high : pc + 4 ≤ base + size = omega (arith, w.low, w.same, w.fits) in
    let inside : is_inside base size pc 4 ≡ true = grind (arith, nat_tests) in
    let aligned : pc % 4 ≡ 0 = omega (arith, w.low, w.same, w.whole, w.aligned) in
    fault_by (pc % 4 == 0) (is_inside base size pc 4) (grind (arith, nat_tests)) inside
