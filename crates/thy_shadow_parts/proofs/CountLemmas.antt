-- How many entries of a table are free, by the numbers that it lists; and a free page for each free frame.
use Rattle.std.proofs.Common.{◌≡◌, ℕ, zero, suc, ◌+◌, ◌<◌, ◌≤◌, ◌==◌, Bool, true, false, List, [], ◌∷◌, length, get_or, slice_set, Option, Some, None, is_none, is_some, All, refl, ◌∙◌, ap, inl, inr, arith, sym}
use Rattle.std.specs.List.{count_by}
use Rattle.std.proofs.lemmas.Bool.{cases_Bool, cases_eq, eq-eqb, ne_eqb}
use Rattle.std.proofs.lemmas.List.{get_or-set_same, get_or-set_other, get_or_default}
use Rattle.std.proofs.lemmas.List.Sums.{sum_by-set, sum_by-cons, sum_by-le}
use Rattle.thy_table.specs.Listing.{Listing, IsListing, entry_at, lists, index_of, free_count}
use Rattle.thy_table.proofs.IndexLemmas.{one_if, free_one, lists-inside}
use Rattle.thy_table.proofs.ListingLaws.{index_of-lists, none-lists, found-once}
use Rattle.thy_shadow_parts.specs.Guarded.{PoolHasRoom}
use Rattle.thy_shadow_parts.specs.Keys.{number_key}
use Rattle.thy_shadow_parts.specs.State.{pool_of}

-- ---- sums over the first numbers

abbrev pub total : (ℕ → ℕ) → ℕ → ℕ
total f zero = 0
total f (suc n) = total f n + f n

pub total-plus : (f g : ℕ → ℕ) (n : ℕ) → total (λ k. f k + g k) n ≡ total f n + total g n
total-plus f g zero = refl
total-plus f g (suc n) = omega (arith, total-plus f g n)

pub total-same : (f g : ℕ → ℕ) (n : ℕ) → ((k : ℕ) → k < n → f k ≡ g k) → total f n ≡ total g n
total-same f g zero each = refl
total-same f g (suc n) each = omega (arith, total-same f g n (λ k l. each k (omega arith)), each n (omega arith))

pub total-zeros : (f : ℕ → ℕ) (n : ℕ) → ((k : ℕ) → k < n → f k ≡ 0) → total f n ≡ 0
total-zeros f zero each = refl
total-zeros f (suc n) each = omega (arith, total-zeros f n (λ k l. each k (omega arith)), each n (omega arith))

pub total-ones : (f : ℕ → ℕ) (n : ℕ) → ((k : ℕ) → k < n → f k ≡ 1) → total f n ≡ n
total-ones f zero each = refl
total-ones f (suc n) each = omega (arith, total-ones f n (λ k l. each k (omega arith)), each n (omega arith))

-- the total over m + n numbers is the total over the first m, and the total over the n after them
pub total-split : (f : ℕ → ℕ) (m n : ℕ) → total f (m + n) ≡ total f m + total (λ k. f (m + k)) n
total-split f m zero = let same : m + 0 ≡ m = omega arith in ap (total f) same ∙ omega arith
total-split f m (suc n) =
    let more : m + suc n ≡ suc (m + n) = omega arith in
    let last : total f (suc (m + n)) ≡ total f (m + n) + f (m + n) = refl in
    ap (total f) more ∙ last ∙ omega (arith, total-split f m n)

-- the first one, and those after it
pub total-front : (f : ℕ → ℕ) (n : ℕ) → total f (suc n) ≡ f 0 + total (λ k. f (suc k)) n
total-front f zero = omega arith
total-front f (suc n) =
    let last : total f (suc (suc n)) ≡ total f (suc n) + f (suc n) = refl in
    last ∙ omega (arith, total-front f n)

-- one number is met once, if it is one of the first
pub total-without : (m n : ℕ) → n ≤ m → total (λ k. one_if (m == k)) n ≡ 0
total-without m n l =
    total-zeros (λ k. one_if (m == k)) n (λ k below. ap one_if (ne_eqb m k (λ same. absurd (omega (arith, same, l, below)))))

pub total-with : (m n : ℕ) → m < n → total (λ k. one_if (m == k)) n ≡ 1
total-with m zero l = absurd (omega (arith, l))
total-with m (suc n) l = elim (cases_eq m n) as (λ _. total (λ k. one_if (m == k)) (suc n) ≡ 1) [
  | inl same ↦ omega (arith, total-without m n (omega (arith, same)), ap one_if (eq-eqb m n same))
  | inr other ↦ omega (arith, total-with m n (omega (arith, l, other)), ap one_if (ne_eqb m n other))
]

-- ---- entries

-- if no element passes a test, the count is 0
pub count-nowhere : {X : Type 0} (test : X → Bool) (xs : List X) (d : X) → ((k : ℕ) → k < length xs → test (get_or xs k d) ≡ false)
    → count_by test xs ≡ 0
count-nowhere {X} test xs d none =
    let each : All (λ (x : X). one_if (test x) ≤ 0) xs = λ k e l.
    let is : test (get_or xs k e) ≡ false = ap test (get_or_default xs k e d l) ∙ none k l in
    omega (arith, ap one_if is) in
    omega (arith, sum_by-le (λ (x : X). one_if (test x)) 0 xs each)

-- one element less passes after a set if only the old one did
pub count-set_less : {X : Type 0} (test : X → Bool) (xs : List X) (i : ℕ) (y d : X) → i < length xs → test y ≡ false
    → test (get_or xs i d) ≡ true
    → count_by test (slice_set xs i y) + 1 ≡ count_by test xs
count-set_less test xs i y d inside now was = omega (arith, sum_by-set (λ x. one_if (test x)) xs i y d inside, ap one_if now, ap one_if was)

module _ {E : Type 0} (key : E → ℕ) where
  -- each entry is free or lists one of the numbers
  pub count-numbers : (n : ℕ) (es : List (Option E)) → ((i m : ℕ) → lists key m (get_or es i None) ≡ true → m < n)
      → count_by is_none es + total (λ m. count_by (lists key m) es) n ≡ length es
  count-numbers n [] inside = omega (arith, total-zeros (λ m. count_by (lists key m) []) n (λ k l. refl))
  count-numbers n (None ∷ es) inside =
      let rest = count-numbers n es (λ i m l. inside (suc i) m l) in
      let each : total (λ m. count_by (lists key m) (None ∷ es)) n ≡ total (λ m. count_by (lists key m) es) n
      = total-same (λ m. count_by (lists key m) (None ∷ es)) (λ m. count_by (lists key m) es) n
      (λ m l. refl) in
      omega (arith, rest, each, sum_by-cons (free_one {X = E}) None es)
  count-numbers n (Some e ∷ es) inside =
      let rest = count-numbers n es (λ i m l. inside (suc i) m l) in
      let each : total (λ m. count_by (lists key m) (Some e ∷ es)) n ≡ total (λ m. one_if (key e == m) + count_by (lists key m) es) n
      = total-same (λ m. count_by (lists key m) (Some e ∷ es)) (λ m. one_if (key e == m) + count_by (lists key m) es) n
      (λ m l. sum_by-cons (λ (o : Option E). one_if (lists key m o)) (Some e) es) in
      let both = total-plus (λ m. one_if (key e == m)) (λ m. count_by (lists key m) es) n in
      let one = total-with (key e) n (inside 0 (key e) (eq-eqb (key e) (key e) refl)) in
      omega (arith, rest, each, both, one, sum_by-cons (free_one {X = E}) (Some e) es)

  -- a number is listed once, or not at all
  pub count-once : (t : Listing E) (n : ℕ) (o : Option ℕ) → IsListing key t → index_of key n t ≡ o
      → count_by (lists key n) t.entries ≡ one_if (is_some o)
  count-once t n None listing e = count-nowhere (lists key n) t.entries None (λ k l. none-lists key t n e k)
  count-once t n (Some i) listing e =
      let here : lists key n (entry_at t i) ≡ true = index_of-lists key t n i e in
      let inside : i < length t.entries = lists-inside key t.entries i n here in
      let others : count_by (lists key n) (slice_set t.entries i None) ≡ 0
      = count-nowhere (lists key n) (slice_set t.entries i None) None
      (λ k l. elim (cases_eq k i) as (λ _. lists key n (get_or (slice_set t.entries i None) k None) ≡ false) [
        | inl same ↦ ap (λ m. lists key n (get_or (slice_set t.entries i None) m None)) same
            ∙ ap (lists key n) (get_or-set_same t.entries i None None inside)
        | inr other ↦ ap (lists key n) (get_or-set_other t.entries i k None None other)
            ∙ elim (cases_Bool (lists key n (entry_at t k))) as (λ _. lists key n (entry_at t k) ≡ false) [
              | inl there ↦ absurd (other (found-once key t listing k i n there here))
              | inr not_there ↦ not_there
            ]
      ]) in
      omega (arith, others, count-set_less (lists key n) t.entries i None None inside refl here)

  -- the number of free entries and the number of numbers that are listed make the number of entries
  pub count-listed : (t : Listing E) (n : ℕ) → IsListing key t → t.numbers ≡ n
      → free_count t + total (λ m. one_if (is_some (index_of key m t))) n ≡ length t.entries
  count-listed t n listing numbers =
      let all = count-numbers n t.entries (λ i m l. omega (arith, listing.inside i m l, numbers)) in
      let each : total (λ m. count_by (lists key m) t.entries) n ≡ total (λ m. one_if (is_some (index_of key m t))) n
      = total-same (λ m. count_by (lists key m) t.entries) (λ m. one_if (is_some (index_of key m t))) n
      (λ m l. count-once t m (index_of key m t) listing refl) in
      omega (arith, all, each)

-- an entry is free or not
pub count-entries : {E : Type 0} (es : List (Option E))
    → count_by is_none es + total (λ j. one_if (is_some (get_or es j None))) (length es) ≡ length es
count-entries [] = refl
count-entries {E} (None ∷ es) =
    let front = total-front (λ j. one_if (is_some (get_or (None ∷ es) j None))) (length es) in
    omega (arith, count-entries es, front, sum_by-cons (free_one {X = E}) None es)
count-entries {E} (Some e ∷ es) =
    let front = total-front (λ j. one_if (is_some (get_or (Some e ∷ es) j None))) (length es) in
    omega (arith, count-entries es, front, sum_by-cons (free_one {X = E}) (Some e) es)

pub room : PoolHasRoom
room s h =
    let there : ℕ → ℕ = λ n. one_if (is_some (pool_of s n)) in
    let filled : ℕ → ℕ = λ j. one_if (is_some (entry_at s.frames j)) in
    let pool = count-listed number_key s.pool (s.p.pages + s.p.ptt) h.pool_once h.pool_numbers in
    let split = total-split there s.p.pages s.p.ptt in
    let mapped : total there s.p.pages ≡ s.p.pages = total-ones there s.p.pages (λ x l. ap one_if (h.mapped x l)) in
    let claimed : total (λ j. there (s.p.pages + j)) s.p.ptt ≡ total filled s.p.ptt
    = total-same (λ j. there (s.p.pages + j)) filled s.p.ptt (λ j l. ap one_if (sym (h.claimed j))) in
    let frames = count-entries s.frames.entries in
    omega (arith, pool, split, mapped, claimed, frames, ap (total filled) h.frames_size, h.pool_size, h.frames_size)
