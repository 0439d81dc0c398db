-- The counts of a slot: the first that is at fault.
use Rattle.std.proofs.Common.{◌≡◌, ℕ, ◌+◌, ◌<◌, ◌≤◌, ◌==◌, ◌&&◌, ◌||◌, not, Bool, true, false, nat_lt, nat_le, map, get_or, Option, Some, None, refl, sym, ◌∙◌, ap, inl, inr, arith}
use Rattle.std.proofs.lemmas.Bool.{cases_lt, le-ltb, lt-leb}
use Rattle.std.proofs.lemmas.List.{ext_get_or}
use Rattle.std.proofs.lemmas.List.FromFn.{length-range_with_len, get_or-range_with_len, length-map-range_with_len, get_or-map-range_with_len}
use Rattle.std.proofs.lemmas.List.Quantifiers.{position-Some}
use Rattle.std.proofs.lemmas.Iterator.Adapters.{position_from-zero}
use Rattle.std.specs.List.{range_with_len, position}
use Rattle.thy_layout.proofs.EntryLemmas.{none_at}

-- what is alike at each of the first n numbers
pub map-alike_numbers : (f g : ℕ → ℕ) (n : ℕ) → ((i : ℕ) → i < n → f i ≡ g i) → map f (range_with_len 0 n) ≡ map g (range_with_len 0 n)
map-alike_numbers f g n each =
    let left = length-map-range_with_len f 0 n in
    let right = length-map-range_with_len g 0 n in
    ext_get_or 0 (map f (range_with_len 0 n)) (map g (range_with_len 0 n)) (left ∙ sym right)
    (λ i below.
    let l : i < n = omega (arith, left) in
    get_or-map-range_with_len f 0 n i i 0 l (omega arith) ∙ each i l ∙ sym (get_or-map-range_with_len g 0 n i i 0 l (omega arith)))

-- a number of the first n, by its place
numbered : (t : ℕ → Bool) (n i : ℕ) → i < n → t (get_or (range_with_len 0 n) i 0) ≡ t i
numbered t n i l = let plain : 0 + i ≡ i = omega arith in ap t (get_or-range_with_len 0 n i 0 l ∙ plain)

none_is : (t : ℕ → Bool) (n : ℕ) (found : Option ℕ) → position t (range_with_len 0 n) ≡ found
    → ((i : ℕ) → i < n → t i ≡ false) → found ≡ None
none_is t n None h none = refl
none_is t n (Some i) h none =
    let at = position-Some t (range_with_len 0 n) i 0 h in
    let inside : i < n = omega (arith, at.0, length-range_with_len 0 n) in
    let yes : t i ≡ true = sym (numbered t n i inside) ∙ at.1 in
    let no = none i inside in
    cc

-- none of the first n numbers passes a test
pub no_position : (t : ℕ → Bool) (n : ℕ) → ((i : ℕ) → i < n → t i ≡ false) → position t (range_with_len 0 n) ≡ None
no_position t n none = none_is t n (position t (range_with_len 0 n)) refl none

-- if none of them is found, none does
pub none_passes : (t : ℕ → Bool) (n : ℕ) → position t (range_with_len 0 n) ≡ None → (i : ℕ) → i < n → t i ≡ false
none_passes t n h i l =
    sym (numbered t n i l)
    ∙ none_at t 0 (range_with_len 0 n) i 0 (sym (position_from-zero t (range_with_len 0 n)) ∙ h) (omega (arith, length-range_with_len 0 n))

first_is : (t : ℕ → Bool) (n i : ℕ) (found : Option ℕ) → position t (range_with_len 0 n) ≡ found
    → i < n → ((k : ℕ) → k < i → t k ≡ false) → t i ≡ true → found ≡ Some i
first_is t n i None h l none here = let no = none_passes t n h i l in cc
first_is t n i (Some k) h l none here =
    let at = position-Some t (range_with_len 0 n) k 0 h in
    let inside : k < n = omega (arith, at.0, length-range_with_len 0 n) in
    elim (cases_lt k i) as (λ _. (let o : Option ℕ = Some k in o) ≡ Some i) [
      | inl below ↦
          let no = none k below in
          let found : t k ≡ true = sym (numbered t n k inside) ∙ at.1 in
          cc
      | inr above ↦ elim (cases_lt i k) as (λ _. (let o : Option ℕ = Some k in o) ≡ Some i) [
        | inl over ↦ let no : t i ≡ false = sym (numbered t n i l) ∙ at.2 i over in cc
        | inr level ↦ let same : k ≡ i = omega arith in ap Some same
      ]
    ]

-- number i is the first of the first n that does
pub position_is : (t : ℕ → Bool) (n i : ℕ) → i < n → ((k : ℕ) → k < i → t k ≡ false) → t i ≡ true → position t (range_with_len 0 n) ≡ Some i
position_is t n i l none here = first_is t n i (position t (range_with_len 0 n)) refl l none here

-- a count that is not past 63, and zero past the last page
pub fine_count : (count pages i : ℕ) → (i < pages → count ≤ 63) → (pages ≤ i → count ≡ 0)
    → (nat_lt 63 count || (nat_le pages i && not (count == 0))) ≡ false
fine_count count pages i within rest = elim (cases_lt i pages) as (λ _. (nat_lt 63 count || (nat_le pages i && not (count == 0))) ≡ false) [
  | inl l ↦
      ap (λ b. b || (nat_le pages i && not (count == 0))) (le-ltb 63 count (within l))
      ∙ ap (λ b. b && not (count == 0)) (lt-leb pages i l)
  | inr m ↦
      let zero : count ≡ 0 = rest m in
      ap (λ c. nat_lt 63 c || (nat_le pages i && not (c == 0))) zero ∙ and_false (nat_le pages i)
] where
  and_false : (b : Bool) → (b && false) ≡ false
  and_false true = refl
  and_false false = refl
