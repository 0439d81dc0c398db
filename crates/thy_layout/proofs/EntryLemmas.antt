-- Which entry of a table lists a number.
use Rattle.std.proofs.Common.{◌≡◌, ℕ, zero, suc, ◌+◌, ◌<◌, ◌≤◌, Bool, true, false, cond, List, [], ◌∷◌, length, take, get_or, Option, Some, None, refl, sym, ◌∙◌, ap, subst, inl, inr, arith, replicate}
use Rattle.std.proofs.lemmas.Bool.{cases_lt, eq-eqb, eqb-true}
use Rattle.std.proofs.lemmas.List.{get_or-take, get_or_past, length-take, length-replicate, get_or-replicate}
use Rattle.std.proofs.lemmas.List.Quantifiers.{position-Some}
use Rattle.std.proofs.lemmas.Iterator.Adapters.{position_from-zero}
use Rattle.std.specs.List.{position_from}
use Rattle.thy_layout.specs.Entries.{entry_at, Lists, is_entry_of, entry_of}

-- an entry that passes the test lists the number
listed_of_test : (n : ℕ) (e : Option ℕ) → is_entry_of n e ≡ true → e ≡ Some n
listed_of_test n None h = cc
listed_of_test n (Some m) h = ap Some (eqb-true m n h)

test_of_listed : (n : ℕ) (e : Option ℕ) → e ≡ Some n → is_entry_of n e ≡ true
test_of_listed n e h = ap (is_entry_of n) h ∙ eq-eqb n n refl

-- the entry that is found lists the number, and is within the table
pub entry_of-Some : (table : List (Option ℕ)) (n i : ℕ) → entry_of table n ≡ Some i → Lists table i n
entry_of-Some table n i h = record { is = listed_of_test n (entry_at table i) (position-Some (is_entry_of n) table i None h).1 }

-- an entry that lists a number is within the table
pub Lists-inside : (table : List (Option ℕ)) (i n : ℕ) → Lists table i n → i < length table
Lists-inside table i n l = elim (cases_lt i (length table)) as (λ _. i < length table) [
  | inl inside ↦ inside
  | inr past ↦ let none : entry_at table i ≡ None = get_or_past table i None past in let is = l.is in cc
]

-- if no element passes a test, each fails it
pub none_at : {X : Type 0} (t : X → Bool) (k : ℕ) (xs : List X) (i : ℕ) (d : X)
    → position_from t k xs ≡ None → i < length xs → t (get_or xs i d) ≡ false
none_at t k [] i d h l = absurd (omega arith)
none_at t k (x ∷ xs) zero d h l =
    let cases : (b : Bool) → cond b (Some k) (position_from t (k + 1) xs) ≡ None → b ≡ false =
    λ b. elim b as (λ b. cond b (Some k) (position_from t (k + 1) xs) ≡ None → b ≡ false) [ true ↦ λ e. cc | false ↦ λ e. refl ] in
    cases (t x) h
none_at t k (x ∷ xs) (suc i) d h l =
    let cases : (b : Bool) → cond b (Some k) (position_from t (k + 1) xs) ≡ None → position_from t (k + 1) xs ≡ None =
    λ b. elim b as (λ b. cond b (Some k) (position_from t (k + 1) xs) ≡ None → position_from t (k + 1) xs ≡ None) [
      | true ↦ λ e. cc
      | false ↦ λ e. e
    ] in
    none_at t (k + 1) xs i d (cases (t x) h) (omega arith)

module _ (table : List (Option ℕ)) (n : ℕ) where
  -- if none is found, no entry lists the number
  pub entry_of-None : (i : ℕ) → entry_of table n ≡ None → Lists table i n → ⊥
  entry_of-None i h l =
      let none : is_entry_of n (entry_at table i) ≡ false
      = none_at (is_entry_of n) 0 table i None (sym (position_from-zero (is_entry_of n) table) ∙ h) (Lists-inside table i n l) in
      let some : is_entry_of n (entry_at table i) ≡ true = test_of_listed n (entry_at table i) l.is in
      cc

  absent_is : (found : Option ℕ) → entry_of table n ≡ found → ((i : ℕ) → Lists table i n → ⊥) → found ≡ None
  absent_is None h none = refl
  absent_is (Some i) h none = absurd (none i (entry_of-Some table n i h))

  -- if no entry lists the number, none is found
  pub entry_of-absent : ((i : ℕ) → Lists table i n → ⊥) → entry_of table n ≡ None
  entry_of-absent none = absent_is (entry_of table n) refl none

  listed_is : (i : ℕ) (found : Option ℕ) → entry_of table n ≡ found → Lists table i n → ((k : ℕ) → Lists table k n → k ≡ i)
      → found ≡ Some i
  listed_is i None h l only = absurd (entry_of-None i h l)
  listed_is i (Some k) h l only = ap Some (only k (entry_of-Some table n k h))

  -- the only entry that lists a number is found
  pub entry_of-listed : (i : ℕ) → Lists table i n → ((k : ℕ) → Lists table k n → k ≡ i) → entry_of table n ≡ Some i
  entry_of-listed i l only = listed_is i (entry_of table n) refl l only

  -- no entry before the one that is found lists the number
  pub entry_of-before : (i k : ℕ) → entry_of table n ≡ Some i → k < i → Lists table k n → ⊥
  entry_of-before i k h l here =
      let other : is_entry_of n (entry_at table k) ≡ false = (position-Some (is_entry_of n) table i None h).2 k l in
      let this : is_entry_of n (entry_at table k) ≡ true = test_of_listed n (entry_at table k) here.is in
      cc

first_is : (table : List (Option ℕ)) (n i : ℕ) (found : Option ℕ) → entry_of table n ≡ found
    → ((k : ℕ) → k < i → Lists table k n → ⊥) → Lists table i n → found ≡ Some i
first_is table n i None h none l = absurd (entry_of-None table n i h l)
first_is table n i (Some k) h none l = elim (cases_lt k i) as (λ _. (let o : Option ℕ = Some k in o) ≡ Some i) [
  | inl below ↦ absurd (none k below (entry_of-Some table n k h))
  | inr above ↦ elim (cases_lt i k) as (λ _. (let o : Option ℕ = Some k in o) ≡ Some i) [
    | inl over ↦ absurd (entry_of-before table n k i h over l)
    | inr level ↦ let same : k ≡ i = omega arith in ap Some same
  ]
]

module _ (table : List (Option ℕ)) where
  -- the first k entries list what the table's do
  pub Lists-take : (k i n : ℕ) → i < k → Lists table i n → Lists (take k table) i n
  Lists-take k i n l h = record { is = get_or-take k table i None l ∙ h.is }

  pub Lists-of_take : (k i n : ℕ) → Lists (take k table) i n → (i < k) × Lists table i n
  Lists-of_take k i n h =
      let inside = Lists-inside (take k table) i n h in
      let l : i < k = omega (arith, inside, length-take k table) in
      (l, record { is = sym (get_or-take k table i None l) ∙ h.is })

  pub entry_of-found : (n i : ℕ) → ((k : ℕ) → k < i → Lists table k n → ⊥) → Lists table i n → Some i ≡ entry_of table n
  entry_of-found n i none l = sym (first_is table n i (entry_of table n) refl none l)

  pub entry_of-none : (n i : ℕ) → length table ≤ i → ((k : ℕ) → k < i → Lists table k n → ⊥) → None ≡ entry_of table n
  entry_of-none n i past none =
      sym (entry_of-absent table n (λ k l. let inside = Lists-inside table k n l in none k (omega arith) l))

  -- what is found among the first k entries is before entry k
  pub entry_of-in_take : (k n i : ℕ) → entry_of (take k table) n ≡ Some i → i < k
  entry_of-in_take k n i h = (Lists-of_take k i n (entry_of-Some (take k table) n i h)).0

-- a table of empty entries lists nothing
pub lists_none : (n i k : ℕ) → Lists (replicate n None) i k → ⊥
lists_none n i k l = elim (cases_lt i n) as (λ _. ⊥) [
  | inl inside ↦ let both : Some k ≡ None = sym l.is ∙ get_or-replicate n i None None inside in absurd (cc)
  | inr past ↦
      let size : length (replicate {A = Option ℕ} n None) ≡ n = length-replicate n None in
      let both : Some k ≡ None = sym l.is ∙ get_or_past (replicate n None) i None (omega (arith, size, past)) in absurd (cc)
]

-- ---- one entry more

-- the entry lists a number, and no other does: it is found
pub entry_of-take_here : (table : List (Option ℕ)) (i n : ℕ) → Lists table i n → ((k : ℕ) → Lists table k n → k ≡ i)
    → entry_of (take (i + 1) table) n ≡ Some i
entry_of-take_here table i n l only =
    entry_of-listed (take (i + 1) table) n i (Lists-take table (i + 1) i n (omega arith) l) (λ k h. only k (Lists-of_take table (i + 1) k n h).1)

-- an entry that does not list the number leaves what is found
pub entry_of-take_other : (table : List (Option ℕ)) (i n : ℕ) → (Lists table i n → ⊥)
    → entry_of (take (i + 1) table) n ≡ entry_of (take i table) n
entry_of-take_other table i n not = by_found (entry_of (take i table) n) refl where
  by_found : (o : Option ℕ) → entry_of (take i table) n ≡ o → entry_of (take (i + 1) table) n ≡ entry_of (take i table) n
  by_found None h =
      entry_of-absent (take (i + 1) table) n (λ k l.
      let of = Lists-of_take table (i + 1) k n l in
      elim (cases_lt k i) as (λ _. ⊥) [
        | inl below ↦ entry_of-None (take i table) n k h (Lists-take table i k n below of.1)
        | inr above ↦ let same : k ≡ i = omega (arith, of.0) in not (subst (λ j. Lists table j n) same of.1)
      ])
      ∙ sym h
  by_found (Some k) h =
      let of = Lists-of_take table i k n (entry_of-Some (take i table) n k h) in
      let inside : k < i + 1 = omega (arith, of.0) in
      sym (entry_of-found (take (i + 1) table) n k
      (λ j below l.
      let small : j < i = omega (arith, of.0) in
      entry_of-before (take i table) n k j h below (Lists-take table i j n small (Lists-of_take table (i + 1) j n l).1))
      (Lists-take table (i + 1) k n inside of.1))
      ∙ sym h
