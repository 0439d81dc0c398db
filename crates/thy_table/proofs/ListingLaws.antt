-- Where numbers are listed after each change of a table, for those that stand on it.
use Rattle.std.proofs.Common.{◌≡◌, ◌≢◌, ℕ, suc, ◌<◌, ◌≤◌, true, false, List, [], ◌∷◌, length, map, get_or, Option, Some, None, is_none, is_some, option_and_then, refl, sym, ◌∙◌, ap, inl, inr, arith}
use Rattle.std.specs.List.{sum_by}
use Rattle.std.proofs.lemmas.Bool.{cases_Bool, cases_eq, cases_lt, ne_eqb}
use Rattle.std.proofs.lemmas.List.{length-map, get_or-set_same, get_or-set_other, get_or_past, get_or-map}
use Rattle.std.proofs.lemmas.List.Sums.{sum_by-cons}
use Rattle.std.proofs.lemmas.List.Quantifiers.{position-Some}
use Rattle.thy_block.proofs.BasicLemmas.{get_or-replicate_any}
use Rattle.thy_table.specs.Listing.{Listing, entry_at, lists, index_of, free_index, free_count, with_entry, mapped, empty_table, IsListing}
use Rattle.thy_table.proofs.FirstLemmas.{position-first, position-none, none-position}
use Rattle.thy_table.proofs.IndexLemmas.{is_some-not_none, None-is_none, free_one, some-counted, lists-some, lists-key, lists-key_of, lists-inside}

module _ {E : Type 0} where
  -- the entries after one was written
  pub entry_at-with_same : (t : Listing E) (i : ℕ) (o : Option E) → i < length t.entries → entry_at (with_entry i o t) i ≡ o
  entry_at-with_same t i o inside = get_or-set_same t.entries i o None inside

  pub entry_at-with_other : (t : Listing E) (i j : ℕ) (o : Option E) → j ≢ i → entry_at (with_entry i o t) j ≡ entry_at t j
  entry_at-with_other t i j o other = get_or-set_other t.entries i j o None other

  -- an entry after a rule was applied to all of them
  pub entry_at-mapped : (rule : E → Option E) (t : Listing E) (i : ℕ) → entry_at (mapped rule t) i ≡ option_and_then rule (entry_at t i)
  entry_at-mapped rule t i = elim (cases_lt i (length t.entries)) as (λ _. entry_at (mapped rule t) i ≡ option_and_then rule (entry_at t i)) [
    | inl l ↦ get_or-map (option_and_then rule) t.entries i None None l
    | inr l ↦
        let past : length (map (option_and_then rule) t.entries) ≤ i = omega (arith, l, length-map t.entries (option_and_then rule)) in
        get_or_past (map (option_and_then rule) t.entries) i None past ∙ sym (ap (option_and_then rule) (get_or_past t.entries i None l))
  ]

  -- a rule that clears every entry leaves none
  pub entry_at-cleared : (rule : E → Option E) → ((e : E) → rule e ≡ None) → (t : Listing E) (i : ℕ)
      → entry_at (mapped rule t) i ≡ None
  entry_at-cleared rule clears t i = entry_at-mapped rule t i ∙ none_of (entry_at t i) where
    none_of : (o : Option E) → option_and_then rule o ≡ None
    none_of None = refl
    none_of (Some e) = clears e

  -- a new table has none
  pub entry_at-empty : (size numbers i : ℕ) → entry_at (empty_table {E = E} size numbers) i ≡ None
  entry_at-empty size numbers i = get_or-replicate_any {A = Option E} size i None

-- with no entry live, all are free
pub free_count-all : {E : Type 0} (es : List (Option E)) → ((i : ℕ) → get_or es i None ≡ None)
    → sum_by free_one es ≡ length es
free_count-all [] none = refl
free_count-all (None ∷ es) none =
    omega (arith, free_count-all es (λ i. none (suc i)), sum_by-cons free_one None es)
free_count-all (Some e ∷ es) none = let first : Some e ≡ None = none 0 in cc

free-map : {E : Type 0} (rule : E → Option E) (es : List (Option E)) → sum_by free_one es ≤ sum_by free_one (map (option_and_then rule) es)
free-map rule [] = omega arith
free-map rule (None ∷ es) =
    omega (arith, free-map rule es, sum_by-cons free_one None es, sum_by-cons free_one None (map (option_and_then rule) es))
free-map rule (Some e ∷ es) =
    omega (arith, free-map rule es, sum_by-cons free_one (Some e) es, sum_by-cons free_one (rule e) (map (option_and_then rule) es))

-- a rule fills no free entry
pub free_count-mapped : {E : Type 0} (rule : E → Option E) (t : Listing E) → free_count t ≤ free_count (mapped rule t)
free_count-mapped rule t = free-map rule t.entries

-- the free place that is found is the lowest
pub free_first : {E : Type 0} (t : Listing E) (i : ℕ) → free_index t ≡ Some i
    → (i < length t.entries) × (entry_at t i ≡ None) × ((k : ℕ) → k < i → is_some (entry_at t k) ≡ true)
free_first t i e =
    let first = position-Some is_none t.entries i None e in
    (first.0, None-is_none (entry_at t i) first.1, λ k l. is_some-not_none (entry_at t k) (first.2 k l))

-- a free place is found if one is free
pub free_found : {E : Type 0} (t : Listing E) → 0 < free_count t → (i : ℕ) × (free_index t ≡ Some i)
free_found t room = by_place (free_index t) refl where
  by_place : (o : Option ℕ) → free_index t ≡ o → (i : ℕ) × (free_index t ≡ Some i)
  by_place None found = let none = (some-counted t.entries None found).1 room in absurd cc
  by_place (Some i) found = (i, found)

module _ {E : Type 0} (key : E → ℕ) where
  -- a number that is found is listed there
  pub index_of-lists : (t : Listing E) (n i : ℕ) → index_of key n t ≡ Some i → lists key n (entry_at t i) ≡ true
  index_of-lists t n i e = (position-Some (lists key n) t.entries i None e).1

  -- a number that is not found is listed nowhere
  pub none-lists : (t : Listing E) (n : ℕ) → index_of key n t ≡ None → (i : ℕ) → lists key n (entry_at t i) ≡ false
  none-lists t n e i = elim (cases_lt i (length t.entries)) as (λ _. lists key n (entry_at t i) ≡ false) [
    | inl l ↦ none-position (lists key n) None t.entries e i l
    | inr l ↦ ap (lists key n) (get_or_past t.entries i None l)
  ]

  pub index_of-none : (t : Listing E) (n : ℕ) → ((i : ℕ) → lists key n (entry_at t i) ≡ false) → index_of key n t ≡ None
  index_of-none t n none = position-none (lists key n) None t.entries (λ k _. none k)

  -- a table with no entry live lists nothing
  pub IsListing-free : (t : Listing E) → ((i : ℕ) → entry_at t i ≡ None) → IsListing key t
  IsListing-free t none = record {
    found = λ i n h. let both : false ≡ true = sym (ap (lists key n) (none i)) ∙ h in cc;
    inside = λ i n h. let both : false ≡ true = sym (ap (lists key n) (none i)) ∙ h in absurd cc;
  }

  -- two entries that list one number are one
  pub found-once : (t : Listing E) → IsListing key t → (i j n : ℕ) → lists key n (entry_at t i) ≡ true → lists key n (entry_at t j) ≡ true
      → i ≡ j
  found-once t listing i j n here there = let both : Some i ≡ Some j = sym (listing.found i n here) ∙ listing.found j n there in cc

  -- entries are a listing if no number is listed twice and each is below the limit
  pub IsListing-once : (t : Listing E) → ((i j n : ℕ) → lists key n (entry_at t i) ≡ true → lists key n (entry_at t j) ≡ true → i ≡ j)
      → ((i n : ℕ) → lists key n (entry_at t i) ≡ true → n < t.numbers) → IsListing key t
  IsListing-once t once inside = record {
    found = λ i n h. position-first (lists key n) None t.entries i (lists-inside key t.entries i n h) h
        (λ k l. elim (cases_Bool (lists key n (entry_at t k))) as (λ _. lists key n (entry_at t k) ≡ false) [
          | inl s ↦ let same : k ≡ i = once k i n s h in absurd (omega arith)
          | inr s ↦ s
        ]);
    inside = inside;
  }

  -- a number that is listed as before is found as before
  pub index_of-as : (t u : Listing E) (n : ℕ) → IsListing key u → ((i : ℕ) → lists key n (entry_at u i) ≡ lists key n (entry_at t i))
      → index_of key n u ≡ index_of key n t
  index_of-as t u n listing same = by_place (index_of key n t) refl where
    by_place : (o : Option ℕ) → index_of key n t ≡ o → index_of key n u ≡ index_of key n t
    by_place (Some i) e = listing.found i n (same i ∙ index_of-lists t n i e) ∙ sym e
    by_place None e = index_of-none u n (λ i. same i ∙ none-lists t n e i) ∙ sym e

  -- one entry was written, and what it lists is listed nowhere else
  pub IsListing-with : (t : Listing E) (i : ℕ) (o : Option E) → IsListing key t → i < length t.entries
      → ((n : ℕ) → lists key n o ≡ true → (n < t.numbers) × ((j : ℕ) → j ≢ i → lists key n (entry_at t j) ≡ false))
      → IsListing key (with_entry i o t)
  IsListing-with t i o listing inside alone =
      let u = with_entry i o t in
      let here : (n : ℕ) → lists key n (entry_at u i) ≡ true → lists key n o ≡ true =
      λ n h. sym (ap (lists key n) (entry_at-with_same t i o inside)) ∙ h in
      let there : (j n : ℕ) → j ≢ i → lists key n (entry_at u j) ≡ true → lists key n (entry_at t j) ≡ true
      = λ j n other h. sym (ap (lists key n) (entry_at-with_other t i j o other)) ∙ h in
      IsListing-once u
      (λ j k n h g. elim (cases_eq j i) as (λ _. j ≡ k) [
        | inl s ↦ elim (cases_eq k i) as (λ _. j ≡ k) [
          | inl r ↦ s ∙ sym r
          | inr r ↦
              let mine : lists key n o ≡ true = here n (sym (ap (λ m. lists key n (entry_at u m)) s) ∙ h) in
              let both : false ≡ true = sym ((alone n mine).1 k r) ∙ there k n r g in cc
        ]
        | inr s ↦ elim (cases_eq k i) as (λ _. j ≡ k) [
          | inl r ↦
              let mine : lists key n o ≡ true = here n (sym (ap (λ m. lists key n (entry_at u m)) r) ∙ g) in
              let both : false ≡ true = sym ((alone n mine).1 j s) ∙ there j n s h in cc
          | inr r ↦ found-once t listing j k n (there j n s h) (there k n r g)
        ]
      ])
      (λ j n h. elim (cases_eq j i) as (λ _. n < t.numbers) [
        | inl s ↦ (alone n (here n (sym (ap (λ m. lists key n (entry_at u m)) s) ∙ h))).0
        | inr s ↦ listing.inside j n (there j n s h)
      ])

  module _ (t : Listing E) (listing : IsListing key t) where
    -- another entry of the same number
    pub IsListing-set : (i : ℕ) (e : E) → lists key (key e) (entry_at t i) ≡ true → IsListing key (with_entry i (Some e) t)
    IsListing-set i e was = IsListing-with t i (Some e) listing (lists-inside key t.entries i (key e) was)
        (λ n h.
        let is : key e ≡ n = lists-key_of key n (Some e) e h refl in
        let old : lists key n (entry_at t i) ≡ true = ap (λ m. lists key m (entry_at t i)) (sym is) ∙ was in (
          listing.inside i n old,
          λ j other. elim (cases_Bool (lists key n (entry_at t j))) as (λ _. lists key n (entry_at t j) ≡ false) [
            | inl s ↦ absurd (other (found-once t listing j i n s old))
            | inr s ↦ s
          ],
        ))

    module _ (i : ℕ) (e : E) (inside : i < length t.entries) (unlisted : index_of key (key e) t ≡ None) (room : key e < t.numbers) where
      -- one entry more, of a number that was not listed
      pub IsListing-put : IsListing key (with_entry i (Some e) t)
      IsListing-put = IsListing-with t i (Some e) listing inside
          (λ n h.
          let is : key e ≡ n = lists-key_of key n (Some e) e h refl in
          (omega arith, λ j _. ap (λ m. lists key m (entry_at t j)) (sym is) ∙ none-lists t (key e) unlisted j))

      pub index_of-put : index_of key (key e) (with_entry i (Some e) t) ≡ Some i
      index_of-put =
          (IsListing-put).found i (key e)
          (lists-key key (key e) (entry_at (with_entry i (Some e) t) i) e (entry_at-with_same t i (Some e) inside) refl)

    pub index_of-put_other : (i : ℕ) (e : E) (n : ℕ) → i < length t.entries → entry_at t i ≡ None → index_of key (key e) t ≡ None
        → key e < t.numbers → n ≢ key e
        → index_of key n (with_entry i (Some e) t) ≡ index_of key n t
    index_of-put_other i e n inside was unlisted room other = index_of-as t (with_entry i (Some e) t) n (IsListing-put i e inside unlisted room)
        (λ j. elim (cases_eq j i) as (λ _. lists key n (entry_at (with_entry i (Some e) t) j) ≡ lists key n (entry_at t j)) [
          | inl s ↦
              ap (λ m. lists key n (entry_at (with_entry i (Some e) t) m)) s ∙ ap (lists key n) (entry_at-with_same t i (Some e) inside)
              ∙ ne_eqb (key e) n (λ is. other (sym is)) ∙ sym (ap (λ m. lists key n (entry_at t m)) s ∙ ap (lists key n) was)
          | inr s ↦ ap (lists key n) (entry_at-with_other t i j (Some e) s)
        ])

    -- a listing with one entry fewer
    pub IsListing-cleared : (i : ℕ) → i < length t.entries → IsListing key (with_entry i None t)
    IsListing-cleared i inside = IsListing-with t i None listing inside (λ n h. (cc))

    pub index_of-cleared : (i : ℕ) (e : E) → entry_at t i ≡ Some e → index_of key (key e) (with_entry i None t) ≡ None
    index_of-cleared i e was =
        let here : lists key (key e) (entry_at t i) ≡ true = lists-key key (key e) (entry_at t i) e was refl in
        index_of-none (with_entry i None t) (key e)
        (λ j. elim (cases_eq j i) as (λ _. lists key (key e) (entry_at (with_entry i None t) j) ≡ false) [
          | inl s ↦ ap (λ m. lists key (key e) (entry_at (with_entry i None t) m)) s
              ∙ ap (lists key (key e)) (entry_at-with_same t i None (lists-inside key t.entries i (key e) here))
          | inr s ↦ ap (lists key (key e)) (entry_at-with_other t i j None s)
              ∙ elim (cases_Bool (lists key (key e) (entry_at t j))) as (λ _. lists key (key e) (entry_at t j) ≡ false) [
                | inl r ↦ absurd (s (found-once t listing j i (key e) r here))
                | inr r ↦ r
              ]
        ])

    pub index_of-cleared_other : (i : ℕ) (e : E) (n : ℕ) → entry_at t i ≡ Some e → n ≢ key e
        → index_of key n (with_entry i None t) ≡ index_of key n t
    index_of-cleared_other i e n was other =
        let inside : i < length t.entries = lists-inside key t.entries i (key e) (lists-key key (key e) (entry_at t i) e was refl) in
        index_of-as t (with_entry i None t) n (IsListing-cleared i inside)
        (λ j. elim (cases_eq j i) as (λ _. lists key n (entry_at (with_entry i None t) j) ≡ lists key n (entry_at t j)) [
          | inl s ↦ ap (λ m. lists key n (entry_at (with_entry i None t) m)) s ∙ ap (lists key n) (entry_at-with_same t i None inside)
              ∙ sym (ap (λ m. lists key n (entry_at t m)) s ∙ ap (lists key n) was ∙ ne_eqb (key e) n (λ is. other (sym is)))
          | inr s ↦ ap (lists key n) (entry_at-with_other t i j None s)
        ])

    -- every entry changed by a rule that leaves it its number
    module _ (rule : E → Option E) (keeps : (e f : E) → rule e ≡ Some f → key f ≡ key e) where
      pub lists-mapped : (o : Option E) (n : ℕ) → lists key n (option_and_then rule o) ≡ true → lists key n o ≡ true
      lists-mapped None n h = h
      lists-mapped (Some e) n h = let now = lists-some key n (rule e) h in
          lists-key key n (Some e) e refl (sym (keeps e now.0 now.1) ∙ now.2)

      pub IsListing-mapped : IsListing key (mapped rule t)
      IsListing-mapped =
          let old : (i n : ℕ) → lists key n (entry_at (mapped rule t) i) ≡ true → lists key n (entry_at t i) ≡ true
          = λ i n h. lists-mapped (entry_at t i) n (sym (ap (lists key n) (entry_at-mapped rule t i)) ∙ h) in
          IsListing-once (mapped rule t) (λ i j n h g. found-once t listing i j n (old i n h) (old j n g)) (λ i n h. listing.inside i n (old i n h))

      -- a number whose entry stays is found where it was
      pub index_of-mapped : (i : ℕ) (e f : E) → entry_at t i ≡ Some e → rule e ≡ Some f → index_of key (key e) (mapped rule t) ≡ Some i
      index_of-mapped i e f was stays = IsListing-mapped.found i (key e)
          (lists-key key (key e) (entry_at (mapped rule t) i) f (entry_at-mapped rule t i ∙ ap (option_and_then rule) was ∙ stays) (keeps e f stays))

      -- a number whose entry is cleared is listed no more
      pub index_of-mapped_cleared : (i : ℕ) (e : E) → entry_at t i ≡ Some e → rule e ≡ None → index_of key (key e) (mapped rule t) ≡ None
      index_of-mapped_cleared i e was goes = index_of-none (mapped rule t) (key e)
          (λ j. elim (cases_Bool (lists key (key e) (entry_at (mapped rule t) j))) as (λ _. lists key (key e) (entry_at (mapped rule t) j) ≡ false) [
            | inl s ↦
                let old : lists key (key e) (entry_at t j) ≡ true =
                lists-mapped (entry_at t j) (key e) (sym (ap (lists key (key e)) (entry_at-mapped rule t j)) ∙ s) in
                let same : j ≡ i = found-once t listing j i (key e) old (lists-key key (key e) (entry_at t i) e was refl) in
                let none : entry_at (mapped rule t) j ≡ None =
                entry_at-mapped rule t j ∙ ap (λ k. option_and_then rule (entry_at t k)) same ∙ ap (option_and_then rule) was ∙ goes in
                let both : false ≡ true = sym (ap (lists key (key e)) none) ∙ s in cc
            | inr s ↦ s
          ])

      -- a number that was not listed is not listed after a rule was applied
      pub index_of-mapped_none : (n : ℕ) → index_of key n t ≡ None → index_of key n (mapped rule t) ≡ None
      index_of-mapped_none n unlisted = index_of-none (mapped rule t) n
          (λ j. elim (cases_Bool (lists key n (entry_at (mapped rule t) j))) as (λ _. lists key n (entry_at (mapped rule t) j) ≡ false) [
            | inl s ↦
                let old : lists key n (entry_at t j) ≡ true =
                lists-mapped (entry_at t j) n (sym (ap (lists key n) (entry_at-mapped rule t j)) ∙ s) in
                let both : false ≡ true = sym (none-lists t n unlisted j) ∙ old in cc
            | inr s ↦ s
          ])
