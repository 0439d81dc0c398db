-- Lines and their places.
use Rattle.std.proofs.Common.{◌≡◌, ◌≢◌, ◌⊎◌, ℕ, ◌+◌, ◌-◌, ◌<◌, ◌≤◌, ◌==◌, ◌||◌, nat_lt, if◌then◌else◌, true, false, Option, Some, None, refl, sym, ◌∙◌, ap, subst, inl, inr, arith}
use Rattle.std.proofs.lemmas.Bool.{cases_eq, cases_lt, eq-eqb, ne_eqb, lt-ltb, le-ltb}
use Rattle.std.proofs.lemmas.Option.{none-some}
use Rattle.thy_gap.specs.declared.registers.Registers.{Registers}
use Rattle.thy_gap.specs.Lines.{IsWhole, wrapped, stepped, unstepped, place, line_at, source, moved}

-- ---- the parts, by cases

pub wrapped-cases : (n p : ℕ) → ((p < n) × (wrapped n p ≡ p)) ⊎ ((n ≤ p) × (wrapped n p ≡ p - n))
wrapped-cases n p = elim (cases_lt p n) as (λ _. ((p < n) × (wrapped n p ≡ p)) ⊎ ((n ≤ p) × (wrapped n p ≡ p - n))) [
  | inl l ↦ inl (l, ap (λ t. if t then p else p - n) (lt-ltb p n l))
  | inr l ↦ inr (l, ap (λ t. if t then p else p - n) (le-ltb p n l))
]

pub stepped-cases : (gap p : ℕ) → ((p < gap) × (stepped gap p ≡ p)) ⊎ ((gap ≤ p) × (stepped gap p ≡ p + 1))
stepped-cases gap p = elim (cases_lt p gap) as (λ _. ((p < gap) × (stepped gap p ≡ p)) ⊎ ((gap ≤ p) × (stepped gap p ≡ p + 1))) [
  | inl l ↦ inl (l, ap (λ t. if t then p else p + 1) (lt-ltb p gap l))
  | inr l ↦ inr (l, ap (λ t. if t then p else p + 1) (le-ltb p gap l))
]

pub unstepped-cases : (gap y : ℕ) → ((y < gap) × (unstepped gap y ≡ y)) ⊎ ((gap ≤ y) × (unstepped gap y ≡ y - 1))
unstepped-cases gap y = elim (cases_lt y gap) as (λ _. ((y < gap) × (unstepped gap y ≡ y)) ⊎ ((gap ≤ y) × (unstepped gap y ≡ y - 1))) [
  | inl l ↦ inl (l, ap (λ t. if t then y else y - 1) (lt-ltb y gap l))
  | inr l ↦ inr (l, ap (λ t. if t then y else y - 1) (le-ltb y gap l))
]

-- ---- the place of a line

pub place-within : (r : Registers) (x : ℕ) → IsWhole r → x < r.lines → place r x ≤ r.lines
unfolding place
place-within r x w l = omega (arith, w.start, w.gap, wrapped-cases r.lines (x + r.start), stepped-cases r.gap (wrapped r.lines (x + r.start)))

pub place-past_gap : (r : Registers) (x : ℕ) → place r x ≢ r.gap
unfolding place
place-past_gap r x e = omega (arith, e, stepped-cases r.gap (wrapped r.lines (x + r.start)))

-- ---- the line of a place

-- the line at a place, if there is one
abbrev pub unplaced : Registers → ℕ → ℕ
unplaced r y = wrapped r.lines (unstepped r.gap y + (r.lines - r.start))

pub line_at-some : (r : Registers) (y : ℕ) → y ≢ r.gap → y ≤ r.lines → line_at r y ≡ Some (unplaced r y)
unfolding line_at
line_at-some r y other l =
    ap (λ t. if t || nat_lt r.lines y then None else Some (unplaced r y)) (ne_eqb y r.gap other)
    ∙ ap (λ t. if t then None else Some (unplaced r y)) (le-ltb r.lines y l)

pub line_at-gap : (r : Registers) → line_at r r.gap ≡ None
unfolding line_at
line_at-gap r = ap (λ t. if t || nat_lt r.lines r.gap then None else Some (unplaced r r.gap)) (eq-eqb r.gap r.gap refl)

pub line_at-past : (r : Registers) (y : ℕ) → r.lines < y → line_at r y ≡ None
unfolding line_at
line_at-past r y l = elim (cases_eq y r.gap) as (λ _. line_at r y ≡ None) [
  | inl e ↦ ap (λ t. if t || nat_lt r.lines y then None else Some (unplaced r y)) (eq-eqb y r.gap e)
  | inr other ↦
      ap (λ t. if t || nat_lt r.lines y then None else Some (unplaced r y)) (ne_eqb y r.gap other)
      ∙ ap (λ t. if t then None else Some (unplaced r y)) (lt-ltb r.lines y l)
]

-- the line of a line's place is that line
unplaced-place : (r : Registers) (x : ℕ) → IsWhole r → x < r.lines → unplaced r (place r x) ≡ x
unfolding place
unplaced-place r x w l =
    let t : ℕ = wrapped r.lines (x + r.start) in
    let y : ℕ = stepped r.gap t in
    omega (arith, w.start, w.gap, wrapped-cases r.lines (x + r.start), stepped-cases r.gap t, unstepped-cases r.gap y, wrapped-cases r.lines (unstepped r.gap y + (r.lines - r.start)))

pub line_at-place : (r : Registers) (x : ℕ) → IsWhole r → x < r.lines → line_at r (place r x) ≡ Some x
line_at-place r x w l = line_at-some r (place r x) (place-past_gap r x) (place-within r x w l) ∙ ap (λ z. Some z) (unplaced-place r x w l)

unplaced-within : (r : Registers) (y : ℕ) → IsWhole r → y ≢ r.gap → y ≤ r.lines → unplaced r y < r.lines
unplaced-within r y w other l =
    omega (arith, w.start, w.gap, unstepped-cases r.gap y, wrapped-cases r.lines (unstepped r.gap y + (r.lines - r.start)))

place-unplaced : (r : Registers) (y : ℕ) → IsWhole r → y ≢ r.gap → y ≤ r.lines → place r (unplaced r y) ≡ y
unfolding place
place-unplaced r y w other l =
    let t : ℕ = unplaced r y in
    omega (arith, w.start, w.gap, unstepped-cases r.gap y, wrapped-cases r.lines (unstepped r.gap y + (r.lines - r.start)), wrapped-cases r.lines (t + r.start), stepped-cases r.gap (wrapped r.lines (t + r.start)))

some_is : (x y : ℕ) (o : Option ℕ) → o ≡ Some x → o ≡ Some y → x ≡ y
some_is x y o a b = cc

-- a place that has a line is that line's
pub place-line_at : (r : Registers) (x y : ℕ) → IsWhole r → line_at r y ≡ Some x → (x < r.lines) × (place r x ≡ y)
place-line_at r x y w h = elim (cases_eq y r.gap) as (λ _. (x < r.lines) × (place r x ≡ y)) [
  | inl e ↦ absurd (none-some x (sym (ap (line_at r) e ∙ line_at-gap r) ∙ h))
  | inr other ↦ elim (cases_lt r.lines y) as (λ _. (x < r.lines) × (place r x ≡ y)) [
    | inl l ↦ absurd (none-some x (sym (line_at-past r y l) ∙ h))
    | inr l ↦
        let e : unplaced r y ≡ x = some_is (unplaced r y) x (line_at r y) (line_at-some r y other l) h in
        (subst (λ z. z < r.lines) e (unplaced-within r y w other l), ap (place r) (sym e) ∙ place-unplaced r y w other l)
  ]
]

-- two lines at one place are one
pub place-one_to_one : (r : Registers) (x z : ℕ) → IsWhole r → x < r.lines → z < r.lines → place r x ≡ place r z → x ≡ z
place-one_to_one r x z w lx lz e = some_is x z (line_at r (place r x)) (line_at-place r x w lx) (ap (line_at r) e ∙ line_at-place r z w lz)

-- every place but the gap has a line
pub place-onto : (r : Registers) (y : ℕ) → IsWhole r → y ≢ r.gap → y ≤ r.lines → (x : ℕ) × (x < r.lines) × (place r x ≡ y)
place-onto r y w other l = (unplaced r y, unplaced-within r y w other l, place-unplaced r y w other l)

-- ---- a move

pub source-within : (r : Registers) → IsWhole r → (source r ≤ r.lines) × (source r ≢ r.gap)
source-within r w = elim (cases_eq r.gap 0) as (λ _. (source r ≤ r.lines) × (source r ≢ r.gap)) [
  | inl e ↦
      let s : source r ≡ r.lines = ap (λ t. if t then r.lines else r.gap - 1) (eq-eqb r.gap 0 e) in
      (omega (arith, s), λ same. omega (arith, s, same, e, w.start))
  | inr ne ↦
      let s : source r ≡ r.gap - 1 = ap (λ t. if t then r.lines else r.gap - 1) (ne_eqb r.gap 0 ne) in
      (omega (arith, s, w.gap), λ same. omega (arith, s, same, ne))
]

pub whole-moved : (r : Registers) → IsWhole r → IsWhole (moved r)
whole-moved r w = record {
  start = elim (r.gap == 0) as (λ t. (if t then wrapped r.lines (r.start + 1) else r.start) < r.lines) [
    | true ↦ omega (arith, w.start, wrapped-cases r.lines (r.start + 1))
    | false ↦ w.start
  ];
  gap = (source-within r w).0;
  room = w.room;
}

-- the line at the source moves to the gap
pub place-moved_line : (r : Registers) (x : ℕ) → IsWhole r → x < r.lines → place r x ≡ source r → place (moved r) x ≡ r.gap
unfolding place
place-moved_line r x w l here = elim (cases_eq r.gap 0) as (λ _. place (moved r) x ≡ r.gap) [
  | inl e ↦
      let s : source r ≡ r.lines = ap (λ t. if t then r.lines else r.gap - 1) (eq-eqb r.gap 0 e) in
      let m : (moved r).start ≡ wrapped r.lines (r.start + 1) = ap (λ t. if t then wrapped r.lines (r.start + 1) else r.start) (eq-eqb r.gap 0 e) in
      omega (arith, w.start, w.gap, e, s, m, here, wrapped-cases r.lines (r.start + 1), wrapped-cases r.lines (x + r.start), stepped-cases r.gap (wrapped r.lines (x + r.start)), wrapped-cases r.lines (x + (moved r).start), stepped-cases (moved r).gap (wrapped r.lines (x + (moved r).start)))
  | inr ne ↦
      let s : source r ≡ r.gap - 1 = ap (λ t. if t then r.lines else r.gap - 1) (ne_eqb r.gap 0 ne) in
      let m : (moved r).start ≡ r.start = ap (λ t. if t then wrapped r.lines (r.start + 1) else r.start) (ne_eqb r.gap 0 ne) in
      omega (arith, w.start, w.gap, ne, s, m, here, wrapped-cases r.lines (x + r.start), stepped-cases r.gap (wrapped r.lines (x + r.start)), wrapped-cases r.lines (x + (moved r).start), stepped-cases (moved r).gap (wrapped r.lines (x + (moved r).start)))
]

-- every other line stays
pub place-other_line : (r : Registers) (x : ℕ) → IsWhole r → x < r.lines → place r x ≢ source r → place (moved r) x ≡ place r x
unfolding place
place-other_line r x w l other = elim (cases_eq r.gap 0) as (λ _. place (moved r) x ≡ place r x) [
  | inl e ↦
      let s : source r ≡ r.lines = ap (λ t. if t then r.lines else r.gap - 1) (eq-eqb r.gap 0 e) in
      let m : (moved r).start ≡ wrapped r.lines (r.start + 1) = ap (λ t. if t then wrapped r.lines (r.start + 1) else r.start) (eq-eqb r.gap 0 e) in
      omega (arith, w.start, w.gap, e, s, m, other, wrapped-cases r.lines (r.start + 1), wrapped-cases r.lines (x + r.start), stepped-cases r.gap (wrapped r.lines (x + r.start)), wrapped-cases r.lines (x + (moved r).start), stepped-cases (moved r).gap (wrapped r.lines (x + (moved r).start)))
  | inr ne ↦
      let s : source r ≡ r.gap - 1 = ap (λ t. if t then r.lines else r.gap - 1) (ne_eqb r.gap 0 ne) in
      let m : (moved r).start ≡ r.start = ap (λ t. if t then wrapped r.lines (r.start + 1) else r.start) (ne_eqb r.gap 0 ne) in
      omega (arith, w.start, w.gap, ne, s, m, other, wrapped-cases r.lines (x + r.start), stepped-cases r.gap (wrapped r.lines (x + r.start)), wrapped-cases r.lines (x + (moved r).start), stepped-cases (moved r).gap (wrapped r.lines (x + (moved r).start)))
]
