-- A round of moves.
use Rattle.std.proofs.Common.{◌≡◌, ◌≢◌, ◌⊎◌, ℕ, zero, suc, ◌+◌, ◌-◌, ◌%◌, ◌<◌, ◌≤◌, ◌==◌, if◌then◌else◌, false, refl, sym, ◌∙◌, ap, subst, inl, inr, arith}
use Rattle.std.proofs.lemmas.Bool.{cases_eq, cases_lt, ne_eqb, lt-ltb, le-ltb}
use Rattle.std.proofs.Math.Nat.{mod-eq-sub-mod, mod-eq_of_lt}
use Rattle.thy_gap.specs.declared.registers.Registers.{Registers}
use Rattle.thy_gap.specs.Lines.{IsWhole, wrapped, stepped, place, source, moved, moved_times}
use Rattle.thy_gap.proofs.LineLemmas.{wrapped-cases, place-moved_line, place-other_line}

-- below twice n, what is wrapped is the remainder
pub wrapped-is : (n p : ℕ) → p < n + n → wrapped n p ≡ p % n
wrapped-is n p l = elim (wrapped-cases n p) as (λ _. wrapped n p ≡ p % n) [
  | inl low ↦ low.1 ∙ sym (mod-eq_of_lt low.0)
  | inr high ↦ high.1 ∙ sym (mod-eq_of_lt (omega (arith, l, high.0))) ∙ sym (mod-eq-sub-mod high.0)
]

pub place-rotated : (r : Registers) (x : ℕ) → IsWhole r → x < r.lines → place r x ≡ stepped r.gap ((x + r.start) % r.lines)
unfolding place
place-rotated r x w l = ap (stepped r.gap) (wrapped-is r.lines (x + r.start) (omega (arith, w.start, l)))

-- a line is at the source, and moves, or is elsewhere, and stays
pub place-move_cases : (r : Registers) (x : ℕ) → IsWhole r → x < r.lines
    → ((place r x ≡ source r) × (place (moved r) x ≡ r.gap)) ⊎ ((place r x ≢ source r) × (place (moved r) x ≡ place r x))
place-move_cases r x w l =
    elim (cases_eq (place r x) (source r))
    as (λ _. ((place r x ≡ source r) × (place (moved r) x ≡ r.gap)) ⊎ ((place r x ≢ source r) × (place (moved r) x ≡ place r x))) [
      | inl here ↦ inl (here, place-moved_line r x w l here)
      | inr other ↦ inr (other, place-other_line r x w l other)
    ]

-- ---- the registers of a round

-- registers with another gap, and with another start
abbrev pub gap_at : Registers → ℕ → Registers
gap_at r y = record { lines = r.lines; start = r.start; gap = y }

abbrev pub turned : Registers → Registers
turned r = record { lines = r.lines; start = wrapped r.lines (r.start + 1); gap = r.lines }

-- a move whose gap is not at the first place
moved-down : (r : Registers) (y : ℕ) → moved (gap_at r (suc y)) ≡ gap_at r y
moved-down r y =
    let ne : (suc y == 0) ≡ false = ne_eqb (suc y) 0 (λ e. omega (arith, e)) in
    let less : suc y - 1 ≡ y = omega arith in
    ap (λ t. let q : Registers = record {
      lines = r.lines;
      start = if t then wrapped r.lines (r.start + 1) else r.start;
      gap = if t then r.lines else suc y - 1;
    } in q) ne
    ∙ ap (gap_at r) less

-- the moves until it is there
pub moves-down : (r : Registers) (k : ℕ) → k ≤ r.gap → moved_times k r ≡ gap_at r (r.gap - k)
moves-down r zero l = let same : r.gap ≡ r.gap - 0 = omega arith in ap (gap_at r) same
moves-down r (suc k) l =
    let e : r.gap - k ≡ suc (r.gap - suc k) = omega (arith, l) in
    ap moved (moves-down r k (omega (arith, l)) ∙ ap (gap_at r) e) ∙ moved-down r (r.gap - suc k)

-- the move around the end
moved-around : (r : Registers) → moved (gap_at r 0) ≡ turned r
moved-around r = refl

moves-around : (r : Registers) → moved_times (suc r.gap) r ≡ turned r
moves-around r =
    let none : r.gap - r.gap ≡ 0 = omega arith in
    ap moved (moves-down r r.gap (omega arith) ∙ ap (gap_at r) none) ∙ moved-around r

-- moves after the one around the end
pub moves-on : (r : Registers) (k : ℕ) → k ≤ r.lines → moved_times (k + suc r.gap) r ≡ gap_at (turned r) (r.lines - k)
moves-on r zero l =
    let same : r.lines ≡ r.lines - 0 = omega arith in
    let e : 0 + suc r.gap ≡ suc r.gap = omega arith in
    ap (λ n. moved_times n r) e ∙ moves-around r ∙ ap (gap_at (turned r)) same
moves-on r (suc k) l =
    let e : suc k + suc r.gap ≡ suc (k + suc r.gap) = omega arith in
    let less : r.lines - k ≡ suc (r.lines - suc k) = omega (arith, l) in
    ap (λ n. moved_times n r) e
    ∙ ap moved (moves-on r k (omega (arith, l)) ∙ ap (gap_at (turned r)) less)
    ∙ moved-down (turned r) (r.lines - suc k)

-- the registers after a round
pub round_of : (r : Registers) → IsWhole r → moved_times (r.lines + 1) r ≡ gap_at (turned r) r.gap
round_of r w =
    let many : r.lines + 1 ≡ r.lines - r.gap + suc r.gap = omega (arith, w.gap) in
    let back : r.lines - (r.lines - r.gap) ≡ r.gap = omega (arith, w.gap) in
    ap (λ n. moved_times n r) many ∙ moves-on r (r.lines - r.gap) (omega arith) ∙ ap (gap_at (turned r)) back

pub round-rotates : (r : Registers) → IsWhole r → moved_times (r.lines + 1) r ≡ record r { start = (r.start + 1) % r.lines }
round-rotates r w =
    round_of r w
    ∙ ap (λ s. let q : Registers = record { lines = r.lines; start = s; gap = r.gap } in q)
    (wrapped-is r.lines (r.start + 1) (omega (arith, w.start)))

pub round-shifts : (r : Registers) (x : ℕ) → IsWhole r → x < r.lines → place (moved_times (r.lines + 1) r) x ≡ place r ((x + 1) % r.lines)
unfolding place
round-shifts r x w l =
    let s : ℕ = wrapped r.lines (r.start + 1) in
    let z : ℕ = wrapped r.lines (x + 1) in
    let same : wrapped r.lines (x + s) ≡ wrapped r.lines (z + r.start) =
    omega (arith, w.start, l, wrapped-cases r.lines (r.start + 1), wrapped-cases r.lines (x + 1), wrapped-cases r.lines (x + s), wrapped-cases r.lines (z + r.start)) in
    ap (λ (q : Registers). place q x) (round_of r w) ∙ ap (stepped r.gap) same ∙ ap (place r) (wrapped-is r.lines (x + 1) (omega (arith, l)))

-- a line is at the source if the gap comes right after it
at_source : (r : Registers) (x t : ℕ) → wrapped r.lines (x + r.start) ≡ t → place (gap_at r (suc t)) x ≡ source (gap_at r (suc t))
unfolding place
at_source r x t e =
    let ne : (suc t == 0) ≡ false = ne_eqb (suc t) 0 (λ z. omega (arith, z)) in
    let less : t ≡ suc t - 1 = omega arith in
    ap (stepped (suc t)) e
    ∙ ap (λ b. if b then t else t + 1) (lt-ltb t (suc t) (omega arith))
    ∙ less
    ∙ ap (λ b. if b then r.lines else suc t - 1) (sym ne)

-- if the gap is at the first place, the line at the last place is at the source
at_end : (r : Registers) (x t : ℕ) → wrapped r.lines (x + r.start) ≡ t → suc t ≡ r.lines → place (gap_at r 0) x ≡ source (gap_at r 0)
unfolding place
at_end r x t e last =
    let one : t + 1 ≡ r.lines = omega (arith, last) in
    ap (stepped 0) e ∙ ap (λ b. if b then t else t + 1) (le-ltb t 0 (omega arith)) ∙ one

-- each line is at the source once in a round
pub round-moves_each : (r : Registers) (x : ℕ) → IsWhole r → x < r.lines
    → (k : ℕ) × (k ≤ r.lines) × (place (moved_times k r) x ≡ source (moved_times k r))
round-moves_each r x w l =
    let t : ℕ = wrapped r.lines (x + r.start) in
    let below : t < r.lines = omega (arith, w.start, l, wrapped-cases r.lines (x + r.start)) in
    elim (cases_lt t r.gap) as (λ _. (k : ℕ) × (k ≤ r.lines) × (place (moved_times k r) x ≡ source (moved_times k r))) [
      | inl before ↦
          -- the gap comes down to it
          let k : ℕ = r.gap - suc t in
          let gap : r.gap - k ≡ suc t = omega (arith, before) in
          let is : moved_times k r ≡ gap_at r (suc t) = moves-down r k (omega arith) ∙ ap (gap_at r) gap in
          (k, omega (arith, w.gap), subst (λ (q : Registers). place q x ≡ source q) (sym is) (at_source r x t refl))
      | inr behind ↦ elim (cases_eq (suc t) r.lines) as (λ _. (k : ℕ) × (k ≤ r.lines) × (place (moved_times k r) x ≡ source (moved_times k r))) [
        | inl last ↦
            -- the line is the last one, when the gap is at the first place
            let none : r.gap - r.gap ≡ 0 = omega arith in
            let is : moved_times r.gap r ≡ gap_at r 0 = moves-down r r.gap (omega arith) ∙ ap (gap_at r) none in
            (r.gap, w.gap, subst (λ (q : Registers). place q x ≡ source q) (sym is) (at_end r x t refl last))
        | inr inside ↦
            -- the gap comes down to it from the end
            let k : ℕ = r.lines - suc (suc t) in
            let gap : r.lines - k ≡ suc (suc t) = omega (arith, below, inside) in
            let is : moved_times (k + suc r.gap) r ≡ gap_at (turned r) (suc (suc t)) = moves-on r k (omega arith) ∙ ap (gap_at (turned r)) gap in (
              k + suc r.gap,
              omega (arith, below, inside, behind),
              subst (λ (q : Registers). place q x ≡ source q) (sym is) (at_source (turned r) x (suc t)
                  (omega (arith, w.start, l, below, inside, wrapped-cases r.lines (r.start + 1), wrapped-cases r.lines (x + r.start), wrapped-cases r.lines (x + wrapped r.lines (r.start + 1))))),
            )
      ]
    ]
