-- Jumps of a generator lead to the states to which draws lead one by one.
use Rattle.std.proofs.Common.{◌≡◌, ℕ, zero, suc, ◌+◌, ◌-◌, ◌*◌, ◌/◌, ◌%◌, ◌^◌, ◌<◌, if◌then◌else◌, List, [], ◌∷◌, ◌++◌, refl, sym, ◌∙◌, ap, inl, inr, arith, append_assoc, pow-suc}
use Rattle.std.proofs.Math.Nat.{mod-add-mod}
use Rattle.std.proofs.lemmas.Bool.{cases_eq, eq-eqb, ne_eqb}
use Rattle.std.proofs.lemmas.Nat.{mul-mod_first, mul-mod_second}
use Rattle.thy_block.specs.Lcg.{lcg_next}
use Rattle.thy_dram.specs.declared.jumps.Jump.{Jump}
use Rattle.thy_dram.specs.Jumps.{after_draws, landing, over_a_block, twice, doublings, block_powers, after_bit, after_bits}

-- a jump leads to the state after n draws
abbrev pub IsOver : Jump → ℕ → Type 0
IsOver j n = (s : ℕ) → landing j s ≡ after_draws n s

-- ---- draws

pub after_draws-none : (s : ℕ) → after_draws 0 s ≡ s
unfolding after_draws
after_draws-none s = refl

pub after_draws-more : (n s : ℕ) → after_draws (suc n) s ≡ after_draws n (lcg_next s)
unfolding after_draws
after_draws-more n s = refl

pub after_draws-add : (a b s : ℕ) → after_draws (a + b) s ≡ after_draws b (after_draws a s)
after_draws-add zero b s =
    let e : zero + b ≡ b = omega arith in
    ap (λ n. after_draws n s) e ∙ ap (after_draws b) (sym (after_draws-none s))
after_draws-add (suc a) b s =
    let e : suc a + b ≡ suc (a + b) = omega arith in
    ap (λ n. after_draws n s) e ∙ after_draws-more (a + b) s ∙ after_draws-add a b (lcg_next s)
    ∙ ap (after_draws b) (sym (after_draws-more a s))

-- ---- jumps

-- an affine step taken twice is one affine step
step_twice : (m s f o : ℕ) → (s * (f * f % m) + (o * f + o) % m) % m ≡ ((s * f + o) % m * f + o) % m
step_twice m s f o =
    let p : ℕ = s * (f * f % m) in
    let y : ℕ = o * f + o in
    let x : ℕ = s * f + o in
    let turned : p + y % m ≡ y % m + p = omega arith in
    let back : y + p ≡ p + y = omega arith in
    let spread : s * (f * f) + y ≡ x * f + o = omega arith in
    ap (λ n. n % m) turned
    ∙ mod-add-mod y m p
    ∙ ap (λ n. n % m) back
    ∙ sym (mod-add-mod p m y)
    ∙ ap (λ n. (n + y) % m) (mul-mod_second s (f * f) m)
    ∙ mod-add-mod (s * (f * f)) m y
    ∙ ap (λ n. n % m) spread
    ∙ sym (mod-add-mod (x * f) m o)
    ∙ ap (λ n. (n + o) % m) (sym (mul-mod_first x f m))
    ∙ mod-add-mod (x % m * f) m o

pub landing-twice : (j : Jump) (s : ℕ) → landing (twice j) s ≡ landing j (landing j s)
landing-twice j s = step_twice (2 ^ 64) s j.factor j.offset

pub IsOver-twice : (j : Jump) (n : ℕ) → IsOver j n → IsOver (twice j) (n + n)
IsOver-twice j n over s =
    landing-twice j s ∙ over (landing j s) ∙ ap (after_draws n) (over s) ∙ sym (after_draws-add n n s)

-- one draw is a jump
abbrev one_draw : Jump
one_draw = record { factor = 6364136223846793005; offset = 1442695040888963407 }

one_draw-next : (s : ℕ) → landing one_draw s ≡ lcg_next s
unfolding lcg_next
one_draw-next s = refl

IsOver-one_draw : IsOver one_draw 1
IsOver-one_draw s = one_draw-next s ∙ sym (after_draws-none (lcg_next s)) ∙ sym (after_draws-more 0 s)

-- doubled six times it is the jump over a block
six_doublings : twice (twice (twice (twice (twice (twice one_draw))))) ≡ over_a_block
six_doublings = refl

IsOver-doubled : IsOver (twice (twice (twice (twice (twice (twice one_draw)))))) 64
IsOver-doubled =
    IsOver-twice (twice (twice (twice (twice (twice one_draw))))) 32
    (IsOver-twice (twice (twice (twice (twice one_draw)))) 16
    (IsOver-twice (twice (twice (twice one_draw))) 8
    (IsOver-twice (twice (twice one_draw)) 4
    (IsOver-twice (twice one_draw) 2
    (IsOver-twice one_draw 1 IsOver-one_draw)))))

pub IsOver-over_a_block : IsOver over_a_block 64
IsOver-over_a_block s = ap (λ (j : Jump). landing j s) (sym six_doublings) ∙ IsOver-doubled s

-- ---- tables of jumps

-- one jump more of a table
pub doublings-more : (js : List Jump) (n i : ℕ) (j : Jump) → i < n
    → (js ++ j ∷ []) ++ doublings (n - (i + 1)) (twice j) ≡ js ++ doublings (n - i) j
doublings-more js n i j l =
    let left : n - i ≡ suc (n - (i + 1)) = omega arith in
    append_assoc js (j ∷ []) (doublings (n - (i + 1)) (twice j)) ∙ ap (λ k. js ++ doublings k j) (sym left)

-- no jump is taken for 0
pub after_bits-zero : (js : List Jump) (s : ℕ) → after_bits js 0 s ≡ s
after_bits-zero [] s = refl
after_bits-zero (j ∷ js) s = after_bits-zero js s

-- the lowest bit, and the others
lowest_bit : (j : Jump) (m n s : ℕ) → IsOver j m → after_draws (n / 2 * (m + m)) (after_bit j n s) ≡ after_draws (n * m) s
lowest_bit j m n s over = elim (cases_eq (n % 2) 1) as (λ _. after_draws (n / 2 * (m + m)) (after_bit j n s) ≡ after_draws (n * m) s) [
  | inl odd ↦
      let whole : n ≡ n / 2 + n / 2 + 1 = omega arith in
      let sum : m + n / 2 * (m + m) ≡ (n / 2 + n / 2 + 1) * m = omega arith in
      ap (λ t. after_draws (n / 2 * (m + m)) (if t then landing j s else s)) (eq-eqb (n % 2) 1 odd)
      ∙ ap (after_draws (n / 2 * (m + m))) (over s)
      ∙ sym (after_draws-add m (n / 2 * (m + m)) s)
      ∙ ap (λ k. after_draws k s) (sum ∙ ap (λ k. k * m) (sym whole))
  | inr even ↦
      let whole : n ≡ n / 2 + n / 2 = omega arith in
      let sum : n / 2 * (m + m) ≡ (n / 2 + n / 2) * m = omega arith in
      ap (λ t. after_draws (n / 2 * (m + m)) (if t then landing j s else s)) (ne_eqb (n % 2) 1 even)
      ∙ ap (λ k. after_draws k s) (sum ∙ ap (λ k. k * m) (sym whole))
]

-- the jumps of a number's bits lead over that number of draws
pub after_bits-draws : (k : ℕ) (j : Jump) (m n s : ℕ) → IsOver j m → n < 2 ^ k → after_bits (doublings k j) n s ≡ after_draws (n * m) s
after_bits-draws zero j m n s over l =
    let none : n ≡ 0 = omega arith in
    let no_draw : n * m ≡ 0 = ap (λ k. k * m) none ∙ (omega arith) in
    sym (after_draws-none s) ∙ ap (λ k. after_draws k s) (sym no_draw)
after_bits-draws (suc k) j m n s over l =
    let power : 2 ^ suc k ≡ 2 ^ k * 2 = pow-suc 2 k in
    let half : n / 2 < 2 ^ k = omega arith in
    after_bits-draws k (twice j) (m + m) (n / 2) (after_bit j n s) (IsOver-twice j m over) half ∙ lowest_bit j m n s over

-- the table of jumps over blocks leads to the state at which a block's draws begin
pub after_bits-block : (at seed : ℕ) → at < 2 ^ 64 → after_bits block_powers at seed ≡ after_draws (at * 64) seed
unfolding block_powers
after_bits-block at seed l = after_bits-draws 64 over_a_block 64 at seed IsOver-over_a_block l
