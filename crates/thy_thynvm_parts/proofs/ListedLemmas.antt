-- What is counted over the entries of a table is counted over the numbers that they list.
use Rattle.std.proofs.Common.{◌≡◌, ◌≢◌, ℕ, ◌+◌, ◌<◌, ◌≤◌, ◌==◌, if◌then◌else◌, Bool, true, false, All, List, [], ◌∷◌, length, get_or, slice_set, refl, sym, ◌∙◌, ap, subst, inl, inr, arith, zero, suc, Option, Some, None}
use Rattle.std.specs.List.{sum_by}
use Rattle.std.proofs.lemmas.Bool.{cases_eq, cases_lt, eq-eqb, ne_eqb}
use Rattle.std.proofs.lemmas.List.{get_or_default, get_or-set_same, get_or-set_other}
use Rattle.std.proofs.lemmas.List.Sums.{sum_by-set, sum_by-le, sum_by-cons, get_or-le-sum_by}
use Rattle.thy_table.specs.Listing.{Listing, IsListing, entry_at, lists, index_of}
use Rattle.thy_table.proofs.ListingLaws.{index_of-lists, none-lists, found-once}

-- the sum over the numbers below a bound
abbrev total : (ℕ → ℕ) → ℕ → ℕ
total f zero = 0
total f (suc n) = total f n + f n

total-same : (f g : ℕ → ℕ) (n : ℕ) → ((k : ℕ) → f k ≡ g k) → total f n ≡ total g n
total-same f g zero h = refl
total-same f g (suc n) h = omega (arith, total-same f g n h, h n)

total-most : (f g : ℕ → ℕ) (n : ℕ) → ((k : ℕ) → k < n → f k ≤ g k) → total f n ≤ total g n
total-most f g zero h = omega arith
total-most f g (suc n) h = omega (arith, total-most f g n (λ k l. h k (omega (arith, l))), h n (omega arith))

total-plus : (f g : ℕ → ℕ) (n : ℕ) → total (λ k. f k + g k) n ≡ total f n + total g n
total-plus f g zero = refl
total-plus f g (suc n) = omega (arith, total-plus f g n)

total-none : (f : ℕ → ℕ) (n : ℕ) → ((k : ℕ) → k < n → f k ≡ 0) → total f n ≡ 0
total-none f zero h = refl
total-none f (suc n) h = omega (arith, total-none f n (λ k l. h k (omega (arith, l))), h n (omega arith))

-- a weight at one number alone
abbrev only : ℕ → ℕ → ℕ → ℕ
only at v k = if at == k then v else 0

only-here : (at v : ℕ) → only at v at ≡ v
only-here at v = ap (λ (t : Bool). if t then v else 0) (eq-eqb at at refl)

only-else : (at v k : ℕ) → at ≢ k → only at v k ≡ 0
only-else at v k other = ap (λ (t : Bool). if t then v else 0) (ne_eqb at k other)

total-only : (at v n : ℕ) → at < n → total (only at v) n ≡ v
total-only at v zero l = absurd (omega (arith, l))
total-only at v (suc n) l = elim (cases_eq at n) as (λ _. total (only at v) (suc n) ≡ v) [
  | inl e ↦
      let below : total (only at v) n ≡ 0 = total-none (only at v) n (λ k less. only-else at v k (λ same. absurd (omega (arith, less, same, e)))) in
      omega (arith, below, ap (λ (k : ℕ). only at v k) (sym e), only-here at v)
  | inr ne ↦
      let below : total (only at v) n ≡ v = total-only at v n (omega (arith, l, ne)) in
      omega (arith, below, only-else at v n ne)
]

-- entries list numbers below a bound
abbrev pub AreBelow : {E : Type 0} → (E → ℕ) → ℕ → List (Option E) → Type 0
AreBelow {E} key numbers es = (i : ℕ) (e : E) → get_or es i None ≡ Some e → key e < numbers

module _ {E : Type 0} (key : E → ℕ) (weight : Option E → ℕ) (free : weight None ≡ 0) where
  -- the weight of an entry, if it lists a number
  abbrev weight_at : ℕ → Option E → ℕ
  weight_at n o = if lists key n o then weight o else 0

  weight_at-not : (n : ℕ) (o : Option E) → lists key n o ≡ false → weight_at n o ≡ 0
  weight_at-not n o e = ap (λ (t : Bool). if t then weight o else 0) e

  abbrev pub all_at : List (Option E) → ℕ → ℕ
  all_at es n = sum_by (weight_at n) es

  one_entry : (o : Option E) (numbers : ℕ) → ((e : E) → o ≡ Some e → key e < numbers) → total (λ n. weight_at n o) numbers ≡ weight o
  one_entry None numbers below = total-none (λ n. weight_at n None) numbers (λ k l. refl) ∙ sym free
  one_entry (Some e) numbers below = total-only (key e) (weight (Some e)) numbers (below e refl)

  sum-total : (es : List (Option E)) (numbers : ℕ) → AreBelow key numbers es → sum_by weight es ≡ total (all_at es) numbers
  sum-total [] numbers below = sym (total-none (all_at []) numbers (λ k l. refl))
  sum-total (o ∷ es) numbers below = omega (
    arith,
    sum_by-cons weight o es,
    sum-total es numbers (λ i e h. below (suc i) e h),
    one_entry o numbers (λ e h. below 0 e h),
    total-same (all_at (o ∷ es)) (λ n. weight_at n o + all_at es n) numbers (λ n. sum_by-cons (weight_at n) o es),
    total-plus (λ n. weight_at n o) (all_at es) numbers,
  )

  -- of what is listed once, the weight of one entry at most counts
  at_most : (t : Listing E) → IsListing key t → (n most : ℕ) → ((i : ℕ) (e : E) → entry_at t i ≡ Some e → key e ≡ n → weight (Some e) ≤ most)
      → all_at t.entries n ≤ most
  at_most t once n most each = by_place (index_of key n t) refl where
    none_counts : (es : List (Option E)) → ((i : ℕ) → i < length es → lists key n (get_or es i None) ≡ false) → all_at es n ≤ 0
    none_counts es none =
        let all : All (λ o. weight_at n o ≤ 0) es = λ k d l.
        let is : get_or es k d ≡ get_or es k None = get_or_default es k d None l in
        omega (arith, ap (weight_at n) is, weight_at-not n (get_or es k None) (none k l)) in
        omega (arith, sum_by-le (weight_at n) 0 es all)

    by_entry : (i : ℕ) (o : Option E) → entry_at t i ≡ o → weight_at n o ≤ most
    by_entry i None was = omega arith
    by_entry i (Some e) was = elim (cases_eq (key e) n) as (λ _. weight_at n (Some e) ≤ most) [
      | inl same ↦ omega (arith, each i e was same, ap (λ (x : Bool). if x then weight (Some e) else 0) (eq-eqb (key e) n same))
      | inr ne ↦ omega (arith, weight_at-not n (Some e) (ne_eqb (key e) n ne))
    ]

    by_place : (p : Option ℕ) → index_of key n t ≡ p → all_at t.entries n ≤ most
    by_place None h = omega (arith, none_counts t.entries (λ i l. none-lists key t n h i))
    by_place (Some i) h = elim (cases_lt i (length t.entries)) as (λ _. all_at t.entries n ≤ most) [
      | inl l ↦
          let rest : List (Option E) = slice_set t.entries i None in
          let others : all_at rest n ≤ 0 = none_counts rest (λ k less. elim (cases_eq k i) as (λ _. lists key n (get_or rest k None) ≡ false) [
            | inl e ↦ ap (λ (j : ℕ). lists key n (get_or rest j None)) e ∙ ap (lists key n) (get_or-set_same t.entries i None None l)
            | inr ne ↦ ap (lists key n) (get_or-set_other t.entries i k None None ne) ∙ by_test k ne (lists key n (entry_at t k)) refl
          ]) in
          omega (arith, others, sum_by-set (weight_at n) t.entries i None None l, by_entry i (entry_at t i) refl)
      | inr l ↦ omega (
        arith,
        none_counts t.entries (λ k less. by_test k (λ e. absurd (omega (arith, e, less, l))) (lists key n (entry_at t k)) refl),
      )
    ] where
      by_test : (k : ℕ) → k ≢ i → (x : Bool) → lists key n (entry_at t k) ≡ x → lists key n (entry_at t k) ≡ false
      by_test k ne false e = e
      by_test k ne true e = absurd (ne (found-once key t once k i n e (index_of-lists key t n i h)))

  -- if what counts rises at no number, the sum does not rise
  pub sum-most : (s t : Listing E) → IsListing key t → (numbers : ℕ) → AreBelow key numbers s.entries → AreBelow key numbers t.entries
      → ((i : ℕ) (e : E) → entry_at t i ≡ Some e → weight (Some e) ≤ all_at s.entries (key e))
      → sum_by weight t.entries ≤ sum_by weight s.entries
  sum-most s t once numbers old new each = omega (
    arith,
    sum-total s.entries numbers old,
    sum-total t.entries numbers new,
    total-most (all_at t.entries) (all_at s.entries) numbers
        (λ n l. at_most t once n (all_at s.entries n) (λ i e was same. subst (λ (k : ℕ). weight (Some e) ≤ all_at s.entries k) same (each i e was))),
  )

  -- if an entry is listed, all of it counts
  pub at_least : (es : List (Option E)) (i : ℕ) (e : E) → i < length es → get_or es i None ≡ Some e → weight (Some e) ≤ all_at es (key e)
  at_least es i e inside was =
      let here : weight_at (key e) (get_or es i None) ≡ weight (Some e)
      = ap (weight_at (key e)) was ∙ ap (λ (x : Bool). if x then weight (Some e) else 0) (eq-eqb (key e) (key e) refl) in
      omega (arith, here, get_or-le-sum_by (weight_at (key e)) es i None inside)
