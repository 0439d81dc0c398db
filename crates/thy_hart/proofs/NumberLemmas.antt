-- The bytes of a number, and the number of bytes.
use Rattle.std.proofs.Common.{◌≡◌, ℕ, zero, suc, ◌+◌, ◌*◌, ◌/◌, ◌%◌, ◌^◌, ◌<◌, ◌≤◌, List, ◌∷◌, length, take, drop, slice_index, refl, sym, ◌∙◌, ap, arith}
use Rattle.std.proofs.Math.Nat.{add-mul, add_assoc, div-add-mod', div-div-eq-div-mul, mod-eq_of_lt, mod-lt, mul-add-mod_self_right, mul-le-mul_right, mul_assoc, one-le-pow, pow-suc, pow-succ'}
use Rattle.std.proofs.lemmas.List.{drop_more}
use Rattle.std.specs.Int.{w64, byte_at, bytes_low_first, to_le_bytes}
use Rattle.thy_block.specs.LittleEndian.{number_at, number_bytes}
use Rattle.thy_isa.specs.declared.instr.Width.{Width}
use Rattle.thy_isa.specs.declared.instr.Width.TheVariants.{Byte, Half, Word, Double}
use Rattle.thy_isa.specs.declared.instr.Extend.{Extend}
use Rattle.thy_isa.specs.declared.instr.Extend.TheVariants.{Sign, Zero}
use Rattle.thy_isa.specs.Effects.{size_of}
use Rattle.thy_isa.specs.Extending.{extended}
use Rattle.thy_isa.specs.Words.{sign_extended}

-- ---- the bytes of a number from its second on are the bytes of the number without its first

byte_on : (j v : ℕ) → byte_at (suc j) v ≡ byte_at j (v / 256)
byte_on zero v = refl
byte_on (suc j) v = ap (λ d. d % 256) (ap (λ p. v / p) (pow-succ' 256 (suc j)) ∙ sym (div-div-eq-div-mul v 256 (256 ^ suc j)))

bytes_on : (j n v : ℕ) → bytes_low_first (suc j) n v ≡ bytes_low_first j n (v / 256)
bytes_on j zero v = refl
bytes_on j (suc n) v =
    ap (λ (b : ℕ). b ∷ bytes_low_first (suc (suc j)) n v) (byte_on j v) ∙ ap (λ (r : List ℕ). byte_at j (v / 256) ∷ r) (bytes_on (suc j) n v)

-- ---- a number of bytes, by its first

number_more : (n k : ℕ) (bytes : List ℕ) → number_at (suc n) bytes k ≡ slice_index bytes k + 256 * number_at n bytes (suc k)
unfolding number_at
number_more n k bytes = refl

number_none : (k : ℕ) (bytes : List ℕ) → number_at 0 bytes k ≡ 0
unfolding number_at
number_none k bytes = refl

bytes_are : (n v : ℕ) → number_bytes n v ≡ bytes_low_first 0 n v
unfolding number_bytes
bytes_are n v = refl

number_after : (n k b : ℕ) (bytes : List ℕ) → number_at n (b ∷ bytes) (suc k) ≡ number_at n bytes k
number_after zero k b bytes = number_none (suc k) (b ∷ bytes) ∙ sym (number_none k bytes)
number_after (suc n) k b bytes =
    number_more n (suc k) (b ∷ bytes)
    ∙ ap (λ (r : ℕ). slice_index bytes k + 256 * r) (number_after n (suc k) b bytes)
    ∙ sym (number_more n k bytes)

-- ---- the bytes of the number of bytes are these

low_read : (n k : ℕ) (bytes : List ℕ) → ((i : ℕ) → slice_index bytes i < 256) → k + n ≤ length bytes
    → bytes_low_first 0 n (number_at n bytes k) ≡ take n (drop k bytes)
low_read zero k bytes h l = refl
low_read (suc n) k bytes h l =
    let b : ℕ = slice_index bytes k in
    let r : ℕ = number_at n bytes (suc k) in
    let byte : b < 256 = h k in
    let low : (b + 256 * r) % 256 ≡ b = omega (arith, byte) in
    let high : (b + 256 * r) / 256 ≡ r = omega (arith, byte) in
    let next : suc k ≡ k + 1 = omega arith in
    ap (bytes_low_first 0 (suc n)) (number_more n k bytes)
    ∙ ap (λ (x : ℕ). x ∷ bytes_low_first 1 n (b + 256 * r)) low
    ∙ ap (λ (t : List ℕ). b ∷ t) (bytes_on 0 n (b + 256 * r) ∙ ap (bytes_low_first 0 n) high ∙ low_read n (suc k) bytes h (omega arith))
    ∙ ap (λ (i : ℕ). b ∷ take n (drop i bytes)) next
    ∙ ap (take (suc n)) (sym (drop_more bytes k 0 (omega arith)))

pub number_bytes-number_at : (n k : ℕ) (bytes : List ℕ) → ((i : ℕ) → slice_index bytes i < 256) → k + n ≤ length bytes
    → number_bytes n (number_at n bytes k) ≡ take n (drop k bytes)
number_bytes-number_at n k bytes h l = bytes_are n (number_at n bytes k) ∙ low_read n k bytes h l

-- ---- the number of the bytes of a number are its low ones

-- the two low digits of n, to the bases c and then m
mod_split : (n m c : ℕ) → 0 < m → 0 < c → n % (m * c) ≡ (n / c % m) * c + n % c
mod_split n m c hm hc =
    let a = mod-lt (n / c) hm in
    let b = mod-lt n hc in
    let top : (n / c % m + 1) * c ≤ m * c = mul-le-mul_right c (omega arith) in
    let expand : (n / c % m + 1) * c ≡ n / c % m * c + 1 * c = add-mul (n / c % m) 1 c in
    let split : n ≡ n / c / m * (m * c) + (n / c % m * c + n % c) =
    sym (div-add-mod' n c)
    ∙ ap (λ (x : ℕ). x * c + n % c) (sym (div-add-mod' (n / c) m))
    ∙ ap (λ (x : ℕ). x + n % c) (add-mul (n / c / m * m) (n / c % m) c ∙ ap (λ (x : ℕ). x + n / c % m * c) (mul_assoc (n / c / m) m c))
    ∙ add_assoc (n / c / m * (m * c)) (n / c % m * c) (n % c) in
    ap (λ (x : ℕ). x % (m * c)) split ∙ mul-add-mod_self_right (n / c / m) (m * c) (n / c % m * c + n % c) ∙ mod-eq_of_lt (omega arith)

power_some : (n : ℕ) → 0 < 256 ^ n
power_some n = let h = one-le-pow n 256 (omega arith) in omega arith

low_back : (n v : ℕ) → number_at n (bytes_low_first 0 n v) 0 ≡ v % 256 ^ n
low_back zero v = let none = number_none 0 (bytes_low_first 0 0 v) in omega arith
low_back (suc n) v =
    let more = number_more n 0 (bytes_low_first 0 (suc n) v) in
    let rest : number_at n (bytes_low_first 0 (suc n) v) 1 ≡ v / 256 % 256 ^ n
    = number_after n 0 (byte_at 0 v) (bytes_low_first 1 n v) ∙ ap (λ (t : List ℕ). number_at n t 0) (bytes_on 0 n v) ∙ low_back n (v / 256) in
    let split = mod_split v (256 ^ n) 256 (power_some n) (omega arith) in
    let by_power : v % 256 ^ suc n ≡ v % (256 ^ n * 256) = ap (λ p. v % p) (pow-suc 256 n) in
    omega (arith, more, rest, split, by_power)

pub number_at-number_bytes : (n v : ℕ) → number_at n (number_bytes n v) 0 ≡ v % 256 ^ n
number_at-number_bytes n v = ap (λ (t : List ℕ). number_at n t 0) (bytes_are n v) ∙ low_back n v

-- what a load makes of a number depends on its low bytes alone
pub extended-low : (w : Width) (e : Extend) (v : ℕ) → v < 2 ^ 64 → extended w e (v % 256 ^ size_of w) ≡ extended w e v
unfolding extended
extended-low Byte Sign v h = let e : v % 256 ^ 1 % 2 ^ 8 ≡ v % 2 ^ 8 = omega arith in ap (sign_extended 8) e
extended-low Half Sign v h = let e : v % 256 ^ 2 % 2 ^ 16 ≡ v % 2 ^ 16 = omega arith in ap (sign_extended 16) e
extended-low Word Sign v h = let e : v % 256 ^ 4 % 2 ^ 32 ≡ v % 2 ^ 32 = omega arith in ap (sign_extended 32) e
extended-low Double Sign v h = omega (arith, h)
extended-low Byte Zero v h = omega arith
extended-low Half Zero v h = omega arith
extended-low Word Zero v h = omega arith
extended-low Double Zero v h = omega (arith, h)

pub extended-read : (w : Width) (e : Extend) (v : ℕ) → v < 2 ^ 64
    → extended w e (number_at (size_of w) (number_bytes (size_of w) v) 0) ≡ extended w e v
extended-read w e v h = ap (extended w e) (number_at-number_bytes (size_of w) v) ∙ extended-low w e v h

-- ---- the low bytes of all its bytes

pub low_bytes : (w : Width) (v : ℕ) → take (size_of w) (to_le_bytes w64 v) ≡ number_bytes (size_of w) v
unfolding number_bytes
low_bytes Byte v = refl
low_bytes Half v = refl
low_bytes Word v = refl
low_bytes Double v = refl
