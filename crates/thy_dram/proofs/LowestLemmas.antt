-- The lowest place for which a write is queued.
use Rattle.std.proofs.Common.{◌≡◌, ◌≢◌, ℕ, ◌<◌, ◌≤◌, nat_lt, if◌then◌else◌, Bool, true, false, List, [], ◌∷◌, ◌++◌, length, All, refl, sym, ◌∙◌, ap, subst, inl, inr, arith, append_assoc}
use Rattle.std.specs.Prelude.{Option, Some, None, IfSome}
use Rattle.std.proofs.lemmas.Bool.{cases_eq, cases_lt, eq-eqb, ne_eqb, lt-ltb, le-ltb}
use Rattle.std.proofs.lemmas.Grind.{common_steps}
use Rattle.std.proofs.lemmas.List.{append-nil}
use Rattle.std.proofs.lemmas.List.Elements.{All-rest}
use Rattle.thy_block.specs.declared.block.Block.{Block}
use Rattle.thy_block.specs.declared.nvm.Write.{Write}
use Rattle.thy_block.specs.Device.{queued_for}
use Rattle.thy_block.proofs.DeviceLemmas.{queued_for-append}
use Rattle.thy_dram.specs.Lowest.{IsLowest, IsLowestOf, lower, lowest_over}

-- a write is queued for its own place
queued-here : (w : Write) → 0 < length (queued_for (w ∷ []) w.at)
queued-here w = subst (λ (q : List Block). 0 < length q) (sym (ap (λ t. if t then w.block ∷ [] else []) (eq-eqb w.at w.at refl))) (omega arith)

-- a write is queued for no other place
queued-elsewhere : (w : Write) (y : ℕ) → w.at ≢ y → queued_for (w ∷ []) y ≡ []
queued-elsewhere w y other = ap (λ t. if t then w.block ∷ [] else []) (ne_eqb w.at y other)

-- nothing is queued for a place by two lists of writes
none-append : (ws vs : List Write) (y : ℕ) → queued_for ws y ≡ [] → queued_for vs y ≡ [] → queued_for (ws ++ vs) y ≡ []
none-append ws vs y first second = queued_for-append ws vs y ∙ ap (λ q. q ++ queued_for vs y) first ∙ second

-- if one of two lists has a write for a place, so have both together
some-left : (ws vs : List Write) (y : ℕ) → 0 < length (queued_for ws y) → 0 < length (queued_for (ws ++ vs) y)
some-left ws vs y l =
    let both : queued_for (ws ++ vs) y ≡ queued_for ws y ++ queued_for vs y = queued_for-append ws vs y in
    grind (arith, common_steps, both)

some-right : (ws vs : List Write) (y : ℕ) → 0 < length (queued_for vs y) → 0 < length (queued_for (ws ++ vs) y)
some-right ws vs y l =
    let both : queued_for (ws ++ vs) y ≡ queued_for ws y ++ queued_for vs y = queued_for-append ws vs y in
    grind (arith, common_steps, both)

module _ (ws : List Write) (w : Write) (from : ℕ) where
  -- the lowest place with one write more
  IsLowestOf-below : (lowest : Option ℕ) → w.at < from → IsLowestOf ws from lowest → IsLowestOf (ws ++ w ∷ []) from lowest
  IsLowestOf-below None l none =
      λ y h. none-append ws (w ∷ []) y (none y h) (queued-elsewhere w y (λ e. absurd (omega (arith, e, h, l))))
  IsLowestOf-below (Some x) l found = record {
    not_below = found.not_below;
    queued = some-left ws (w ∷ []) x found.queued;
    others = λ y h k. none-append ws (w ∷ []) y (found.others y h k) (queued-elsewhere w y (λ e. absurd (omega (arith, e, h, l))));
  }

  IsLowestOf-higher : (x : ℕ) → x ≤ w.at → IsLowest ws from x → IsLowest (ws ++ w ∷ []) from x
  IsLowestOf-higher x l found = record {
    not_below = found.not_below;
    queued = some-left ws (w ∷ []) x found.queued;
    others = λ y h k. none-append ws (w ∷ []) y (found.others y h k) (queued-elsewhere w y (λ e. absurd (omega (arith, e, k, l))));
  }

  IsLowestOf-first : from ≤ w.at → ((y : ℕ) → from ≤ y → queued_for ws y ≡ []) → IsLowest (ws ++ w ∷ []) from w.at
  IsLowestOf-first l none = record {
    not_below = l;
    queued = some-right ws (w ∷ []) w.at (queued-here w);
    others = λ y h k. none-append ws (w ∷ []) y (none y h) (queued-elsewhere w y (λ e. absurd (omega (arith, e, k))));
  }

  IsLowestOf-lower : (x : ℕ) → from ≤ w.at → w.at < x → IsLowest ws from x → IsLowest (ws ++ w ∷ []) from w.at
  IsLowestOf-lower x l m found = record {
    not_below = l;
    queued = some-right ws (w ∷ []) w.at (queued-here w);
    others = λ y h k. none-append ws (w ∷ []) y (found.others y h (omega (arith, k, m))) (queued-elsewhere w y (λ e. absurd (omega (arith, e, k))));
  }

  is_lower : (lowest : Option ℕ) → IsLowestOf ws from lowest → IsLowestOf (ws ++ w ∷ []) from (lower from lowest w.at)
  is_lower None none = elim (cases_lt w.at from) as (λ _. IsLowestOf (ws ++ w ∷ []) from (lower from None w.at)) [
    | inl low ↦
        let below : nat_lt w.at from ≡ true = lt-ltb w.at from low in
        subst (λ (t : Bool). IsLowestOf (ws ++ w ∷ []) from (if t then None else Some w.at)) (sym below) (IsLowestOf-below None low none)
    | inr high ↦
        let above : nat_lt w.at from ≡ false = le-ltb w.at from high in
        subst (λ (t : Bool). IsLowestOf (ws ++ w ∷ []) from (if t then None else Some w.at)) (sym above) (IsLowestOf-first high none)
  ]
  is_lower (Some x) found = elim (cases_lt w.at from) as (λ _. IsLowestOf (ws ++ w ∷ []) from (lower from (Some x) w.at)) [
    | inl low ↦
        let below : nat_lt w.at from ≡ true = lt-ltb w.at from low in
        subst (λ (t : Bool). IsLowestOf (ws ++ w ∷ []) from (if t then Some x else if nat_lt w.at x then Some w.at else Some x)) (sym below)
        (IsLowestOf-below (Some x) low found)
    | inr high ↦
        let above : nat_lt w.at from ≡ false = le-ltb w.at from high in
        subst (λ (t : Bool). IsLowestOf (ws ++ w ∷ []) from (if t then Some x else if nat_lt w.at x then Some w.at else Some x)) (sym above)
        (elim (cases_lt w.at x) as (λ _. IsLowestOf (ws ++ w ∷ []) from (if nat_lt w.at x then Some w.at else Some x)) [
          | inl first ↦
              let before : nat_lt w.at x ≡ true = lt-ltb w.at x first in
              subst (λ (t : Bool). IsLowestOf (ws ++ w ∷ []) from (if t then Some w.at else Some x)) (sym before)
              (IsLowestOf-lower x high first found)
          | inr later ↦
              let behind : nat_lt w.at x ≡ false = le-ltb w.at x later in
              subst (λ (t : Bool). IsLowestOf (ws ++ w ∷ []) from (if t then Some w.at else Some x)) (sym behind)
              (IsLowestOf-higher x later found)
        ])
  ]

-- what is found among writes is the lowest
lowest_over-is : (before ws : List Write) (from : ℕ) (lowest : Option ℕ) → IsLowestOf before from lowest
    → IsLowestOf (before ++ ws) from (lowest_over from lowest ws)
lowest_over-is before [] from lowest is = subst (λ (qs : List Write). IsLowestOf qs from lowest) (sym (append-nil before)) is
lowest_over-is before (w ∷ ws) from lowest is =
    subst (λ (qs : List Write). IsLowestOf qs from (lowest_over from (lower from lowest w.at) ws)) (append_assoc before (w ∷ []) ws)
    (lowest_over-is (before ++ w ∷ []) ws from (lower from lowest w.at) (is_lower before w from lowest is))

pub IsLowestOf-all : (queue : List Write) (from : ℕ) → IsLowestOf queue from (lowest_over from None queue)
IsLowestOf-all queue from = lowest_over-is [] queue from None (λ y h. refl)

-- a place for which a write is queued is one of those for which writes are queued
pub queued_inside : (ws : List Write) (n x : ℕ) → All (λ (w : Write). w.at < n) ws → 0 < length (queued_for ws x) → x < n
queued_inside [] n x placed some = absurd (omega arith)
queued_inside (w ∷ ws) n x placed some = elim (cases_eq w.at x) as (λ _. x < n) [
  | inl same ↦ let here : w.at < n = placed 0 w (omega arith) in omega (arith, here, same)
  | inr other ↦
      let rest : queued_for (w ∷ ws) x ≡ queued_for ws x
      = ap (λ t. if t then w.block ∷ queued_for ws x else queued_for ws x) (ne_eqb w.at x other) in
      queued_inside ws n x (All-rest (λ (v : Write). v.at < n) w ws (w ∷ ws) refl placed) (subst (λ (q : List Block). 0 < length q) rest some)
]

pub IsLowestOf-inside : (queue : List Write) (n from : ℕ) (next : Option ℕ) → All (λ (w : Write). w.at < n) queue
    → IsLowestOf queue from next
    → IfSome next (λ x. x < n)
IsLowestOf-inside queue n from None placed none = tt
IsLowestOf-inside queue n from (Some x) placed found = queued_inside queue n x placed found.queued
