-- Rounds of moves: each line comes to each place.
use Rattle.std.proofs.Common.{◌≡◌, ◌≢◌, ℕ, zero, suc, ◌+◌, ◌-◌, ◌*◌, ◌<◌, ◌≤◌, sym, ◌∙◌, ap, inl, inr, arith}
use Rattle.std.proofs.lemmas.Bool.{cases_eq}
use Rattle.std.proofs.lemmas.Nat.{mul-le}
use Rattle.std.proofs.Math.Nat.{suc-mul}
use Rattle.thy_gap.specs.declared.registers.Registers.{Registers}
use Rattle.thy_gap.specs.Lines.{IsWhole, wrapped, unstepped, place, source, moved, moved_times}
use Rattle.thy_gap.proofs.LineLemmas.{wrapped-cases, stepped-cases, unstepped-cases, source-within, place-moved_line}
use Rattle.thy_gap.proofs.RoundLemmas.{round_of}

-- moves after moves
moved_times-add : (a b : ℕ) (r : Registers) → moved_times (a + b) r ≡ moved_times a (moved_times b r)
moved_times-add zero b r = let e : 0 + b ≡ b = omega arith in ap (λ n. moved_times n r) e
moved_times-add (suc a) b r =
    let e : suc a + b ≡ suc (a + b) = omega arith in
    ap (λ n. moved_times n r) e ∙ ap moved (moved_times-add a b r)

-- registers with another start
abbrev pub start_at : Registers → ℕ → Registers
start_at r s = record { lines = r.lines; start = s; gap = r.gap }

whole-start : (r : Registers) (s : ℕ) → IsWhole r → s < r.lines → IsWhole (start_at r s)
whole-start r s w l = record { start = l; gap = w.gap; room = w.room }

-- a product whose first factor is one more
more_of : (a m : ℕ) → suc a * m ≡ m + a * m
more_of a m = let e : a * m + m ≡ m + a * m = omega arith in suc-mul a m ∙ e

-- j rounds turn the lines by j places
rounds : (r : Registers) (j s : ℕ) → IsWhole r → s < r.lines → j ≤ r.lines
    → moved_times (j * (r.lines + 1)) (start_at r s) ≡ start_at r (wrapped r.lines (s + j))
rounds r zero s w l few =
    let none : 0 * (r.lines + 1) ≡ 0 = omega arith in
    let same : s ≡ wrapped r.lines (s + 0) = omega (arith, l, wrapped-cases r.lines (s + 0)) in
    ap (λ n. moved_times n (start_at r s)) none ∙ ap (start_at r) same
rounds r (suc j) s w l few =
    let n : ℕ = r.lines in
    let here : ℕ = wrapped n (s + j) in
    let below : here < n = omega (arith, l, few, wrapped-cases n (s + j)) in
    let next : wrapped n (here + 1) ≡ wrapped n (s + suc j) =
    omega (arith, l, few, wrapped-cases n (s + j), wrapped-cases n (here + 1), wrapped-cases n (s + suc j)) in
    ap (λ k. moved_times k (start_at r s)) (more_of j (n + 1))
    ∙ moved_times-add (n + 1) (j * (n + 1)) (start_at r s)
    ∙ ap (moved_times (n + 1)) (rounds r j s w l (omega (arith, few)))
    ∙ round_of (start_at r here) (whole-start r here w below)
    ∙ ap (start_at r) next

-- after a number of rounds, fewer than there are lines, a line is at a place
record Comes (r : Registers) (x y : ℕ) : Type 0 where
  times : ℕ
  turn : ℕ
  few : times < r.lines
  below : turn < r.lines
  after : moved_times (times * (r.lines + 1)) r ≡ start_at r turn
  here : place (start_at r turn) x ≡ y

-- a line comes to any place but the gap
comes-beside_gap : (r : Registers) (x y : ℕ) → IsWhole r → x < r.lines → y ≢ r.gap → y ≤ r.lines → Comes r x y
unfolding place
comes-beside_gap r x y w l other within =
    let n : ℕ = r.lines in
    let p : ℕ = unstepped r.gap y in
    let s : ℕ = wrapped n (p + (n - x)) in
    let j : ℕ = wrapped n (s + (n - r.start)) in
    let inside : p < n = omega (arith, w.gap, other, within, unstepped-cases r.gap y) in
    let below : s < n = omega (arith, l, inside, wrapped-cases n (p + (n - x))) in
    let few : j < n = omega (arith, w.start, below, wrapped-cases n (s + (n - r.start))) in
    let turns : wrapped n (r.start + j) ≡ s =
    omega (arith, w.start, below, few, wrapped-cases n (s + (n - r.start)), wrapped-cases n (r.start + j)) in
    record {
      times = j;
      turn = s;
      few = few;
      below = below;
      after = rounds r j r.start w w.start (omega (arith, few)) ∙ ap (start_at r) turns;
      here = omega (arith, l, other, within, w.gap, inside, below, unstepped-cases r.gap y, wrapped-cases n (p + (n - x)), wrapped-cases n (x + s), stepped-cases r.gap (wrapped n (x + s)));
    }

one_less : (a b c m : ℕ) → c ≡ m + a → c ≤ b → 0 < m → suc a ≤ b
one_less a b c m e l some = omega (arith, e, l, some)

-- each line comes to each place, the gap included, within n * (n + 1) moves of n lines
pub each-place_comes : (r : Registers) (x y : ℕ) → IsWhole r → x < r.lines → y ≤ r.lines
    → (k : ℕ) × (k ≤ r.lines * (r.lines + 1)) × (place (moved_times k r) x ≡ y)
each-place_comes r x y w l within =
    let n : ℕ = r.lines in
    elim (cases_eq y r.gap) as (λ _. (k : ℕ) × (k ≤ r.lines * (r.lines + 1)) × (place (moved_times k r) x ≡ y)) [
      | inl gap ↦
          let s = source-within r w in
          let to : Comes r x (source r) = comes-beside_gap r x (source r) w l s.1 s.0 in
          let q : Registers = start_at r to.turn in
          let most : suc to.times * (n + 1) ≤ n * (n + 1) = mul-le (suc to.times) (n + 1) n (n + 1) (omega (arith, to.few)) (omega arith) in (
            suc (to.times * (n + 1)),
            one_less (to.times * (n + 1)) (n * (n + 1)) (suc to.times * (n + 1)) (n + 1) (more_of to.times (n + 1)) most (omega arith),
            ap (λ (q : Registers). place (moved q) x) to.after ∙ place-moved_line q x (whole-start r to.turn w to.below) l to.here ∙ sym gap,
          )
      | inr other ↦
          let to : Comes r x y = comes-beside_gap r x y w l other within in (
            to.times * (n + 1),
            mul-le to.times (n + 1) n (n + 1) (omega (arith, to.few)) (omega arith),
            ap (λ (q : Registers). place q x) to.after ∙ to.here,
          )
    ]
