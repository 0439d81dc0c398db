-- What a table has for a number, after one entry was changed or added.
use Rattle.std.proofs.Common.{◌≡◌, ◌≢◌, ℕ, ◌<◌, Bool, ◌==◌, List, length, get_or, slice_set, Option, Some, None, is_none, position, unwrap_or, refl, sym, ◌∙◌, ap, inl, inr, arith, subst}
use Rattle.std.proofs.lemmas.Bool.{cases_eq, ne_eqb}
use Rattle.std.proofs.lemmas.List.{length-set, get_or-set_same, get_or-set_other}
use Rattle.std.proofs.lemmas.List.Quantifiers.{position-Some}
use Rattle.thy_table.specs.Listing.{Listing, entry_at, lists, index_of, free_index, with_entry, added_at, IsListing}
use Rattle.thy_table.proofs.IndexLemmas.{lists-some, lists-key, None-is_none}
use Rattle.thy_table.proofs.FirstLemmas.{position-first, position-none, none-position}
use Rattle.thy_control.specs.Find.{entry_found, entry_for, index_for, with_found, with_entry_for}

-- lists that a test cannot distinguish
pub position-pointwise : {X : Type 0} (p : X → Bool) (d : X) (xs ys : List X) → length ys ≡ length xs
    → ((k : ℕ) → p (get_or ys k d) ≡ p (get_or xs k d)) → position p ys ≡ position p xs
position-pointwise p d xs ys same each = by_place (position p xs) refl where
  by_place : (o : Option ℕ) → position p xs ≡ o → position p ys ≡ position p xs
  by_place None e = position-none p d ys (λ k l. each k ∙ none-position p d xs e k (omega arith)) ∙ sym e
  by_place (Some i) e =
      let first = position-Some p xs i d e in
      let inside : i < length ys = omega (arith, first.0) in
      position-first p d ys i inside (each i ∙ first.1) (λ k l. each k ∙ first.2 k l) ∙ sym e

-- what holds of one number, and of every other, holds of all
pub by_number : (P : ℕ → Type 0) (b k : ℕ) → P b → (k ≢ b → P k) → P k
by_number P b k here others = elim (cases_eq k b) as (λ _. P k) [
  | inl e ↦ subst P (sym e) here
  | inr ne ↦ others ne
]

module _ {E : Type 0} (t : Listing E) (i : ℕ) where
  -- the lowest free place is free
  pub free_at : free_index t ≡ Some i → (entry_at t i ≡ None) × (i < length t.entries)
  free_at e =
      let first = position-Some is_none t.entries i None e in
      (None-is_none (entry_at t i) first.1, first.0)

  -- what is written to a free place leaves every entry that was there
  pub entry_at-put : (x : Option E) → entry_at t i ≡ None → (k : ℕ) (e : E) → entry_at t k ≡ Some e
      → entry_at (with_entry i x t) k ≡ Some e
  entry_at-put x free k e was =
      get_or-set_other t.entries i k x None
      (λ s. (let both : Some e ≡ None = sym was ∙ ap (entry_at t) s ∙ free in cc)) ∙ was

  -- what holds of what is written, and of every other entry, holds of all
  pub at_set : (P : E → Type 0) (x : Option E) → i < length t.entries → ((e : E) → x ≡ Some e → P e)
      → ((k : ℕ) (e : E) → k ≢ i → entry_at t k ≡ Some e → P e) → (k : ℕ) (e : E)
      → entry_at (with_entry i x t) k ≡ Some e → P e
  at_set P x inside here others k e was = elim (cases_eq k i) as (λ _. P e) [
    | inl s ↦ here e (sym (get_or-set_same t.entries i x None inside)
        ∙ ap (entry_at (with_entry i x t)) (sym s) ∙ was)
    | inr o ↦ others k e o (sym (get_or-set_other t.entries i k x None o) ∙ was)
  ]

  pub at_put : (P : E → Type 0) (x : E) → i < length t.entries → P x
      → ((k : ℕ) (e : E) → entry_at t k ≡ Some e → P e) → (k : ℕ) (e : E)
      → entry_at (with_entry i (Some x) t) k ≡ Some e → P e
  at_put P x inside here others =
      at_set P (Some x) inside (λ e h. let is : x ≡ e = cc in subst P is here)
      (λ k e o was. others k e was)

module _ {E : Type 0} (key : E → ℕ) (new : ℕ → E) where
  -- the entry that lists a number
  pub found_entry : (t : Listing E) (n i : ℕ) → index_of key n t ≡ Some i
      → (e : E) × (entry_at t i ≡ Some e) × (key e ≡ n) × (i < length t.entries)
  found_entry t n i h =
      let first = position-Some (lists key n) t.entries i None h in
      let some = lists-some key n (entry_at t i) first.1 in
      (some.0, some.1, some.2, first.0)

  pub entry_for-some : (t : Listing E) (n i : ℕ) (e : E) → index_of key n t ≡ Some i → entry_at t i ≡ Some e → entry_for key new n t ≡ e
  entry_for-some t n i e h s = ap (λ o. entry_found key new o n t) h ∙ ap (λ o. unwrap_or o (new n)) s

  pub entry_for-none : (t : Listing E) (n : ℕ) → index_of key n t ≡ None → entry_for key new n t ≡ new n
  entry_for-none t n h = ap (λ o. entry_found key new o n t) h

  -- the entry of a number is at its place
  pub stands_at : (t : Listing E) (n i : ℕ) → index_of key n t ≡ Some i
      → (entry_at t i ≡ Some (entry_for key new n t)) × (i < length t.entries)
  stands_at t n i h =
      let f = found_entry t n i h in (f.1 ∙ sym (ap Some (entry_for-some t n i f.0 h f.1)), f.3)

  -- an entry that stands at a position is found by its number
  pub entry_for-there : (t : Listing E) → IsListing key t → (i : ℕ) (e : E) → entry_at t i ≡ Some e
      → (index_of key (key e) t ≡ Some i) × (entry_for key new (key e) t ≡ e) × (key e < t.numbers)
  entry_for-there t once i e was =
      let here = lists-key key (key e) (entry_at t i) e was refl in
      let place = once.found i (key e) here in
      (place, entry_for-some t (key e) i e place was, once.inside i (key e) here)

  -- a number at the same place of another table, with the same entry there, has the same entry
  pub entry_for-kept : (t u : Listing E) (n : ℕ) → index_of key n u ≡ index_of key n t
      → ((k : ℕ) (e : E) → entry_at t k ≡ Some e → key e ≡ n → entry_at u k ≡ Some e)
      → entry_for key new n u ≡ entry_for key new n t
  entry_for-kept t u n place kept = by_place (index_of key n t) refl where
    by_place : (o : Option ℕ) → index_of key n t ≡ o → entry_for key new n u ≡ entry_for key new n t
    by_place None h = entry_for-none u n (place ∙ h) ∙ sym (entry_for-none t n h)
    by_place (Some k) h =
        let f = found_entry t n k h in
        entry_for-some u n k f.0 (place ∙ h) (kept k f.0 f.1 f.2)
        ∙ sym (entry_for-some t n k f.0 h f.1)

  -- the entry for a number is of that number
  pub key-entry_for : ((n : ℕ) → key (new n) ≡ n) → (t : Listing E) (n : ℕ) → key (entry_for key new n t) ≡ n
  key-entry_for new_key t n = by_place (index_of key n t) refl where
    by_place : (o : Option ℕ) → index_of key n t ≡ o → key (entry_for key new n t) ≡ n
    by_place None h = ap key (entry_for-none t n h) ∙ new_key n
    by_place (Some i) h = let f = found_entry t n i h in ap key (entry_for-some t n i f.0 h f.1) ∙ f.2

  -- the place for a number is one of the table
  pub index_for-inside : (t : Listing E) (n : ℕ) → 0 < length t.entries → index_for key new n t < length t.entries
  index_for-inside t n some = by_place (index_of key n t) refl where
    by_place : (o : Option ℕ) → index_of key n t ≡ o → index_for key new n t < length t.entries
    by_place None h = let e : index_for key new n t ≡ 0 = ap (λ o. unwrap_or o 0) h in omega arith
    by_place (Some i) h =
        let f = found_entry t n i h in
        let e : index_for key new n t ≡ i = ap (λ o. unwrap_or o 0) h in
        omega (arith, e, f.3)

  -- after another entry of the same number was put in the place of one
  module _ (t : Listing E) (i : ℕ) (old e : E) (was : entry_at t i ≡ Some old) (same : key e ≡ key old) (inside : i < length t.entries) where
    lists-set : (n k : ℕ) → lists key n (entry_at (with_entry i (Some e) t) k) ≡ lists key n (entry_at t k)
    lists-set n k = elim (cases_eq k i) as (λ _. lists key n (entry_at (with_entry i (Some e) t) k) ≡ lists key n (entry_at t k)) [
      | inl s ↦
          ap (λ j. lists key n (entry_at (with_entry i (Some e) t) j)) s ∙ ap (lists key n) (get_or-set_same t.entries i (Some e) None inside)
          ∙ ap (λ m. m == n) same ∙ sym (ap (lists key n) was) ∙ sym (ap (λ j. lists key n (entry_at t j)) s)
      | inr o ↦ ap (lists key n) (get_or-set_other t.entries i k (Some e) None o)
    ]

    pub index_of-set : (n : ℕ) → index_of key n (with_entry i (Some e) t) ≡ index_of key n t
    index_of-set n = position-pointwise (lists key n) None t.entries (slice_set t.entries i (Some e)) (length-set t.entries i (Some e)) (lists-set n)

    pub entry_for-set_same : (n : ℕ) → index_of key n t ≡ Some i → entry_for key new n (with_entry i (Some e) t) ≡ e
    entry_for-set_same n h =
        entry_for-some (with_entry i (Some e) t) n i e (index_of-set n ∙ h) (get_or-set_same t.entries i (Some e) None inside)

    pub entry_for-set_other : (n : ℕ) → n ≢ key old → entry_for key new n (with_entry i (Some e) t) ≡ entry_for key new n t
    entry_for-set_other n other = entry_for-kept t (with_entry i (Some e) t) n (index_of-set n)
        (λ k x was_x of_n. get_or-set_other t.entries i k (Some e) None (λ s. (
        let both : Some x ≡ Some old = sym was_x ∙ ap (entry_at t) s ∙ was in
        let one : x ≡ old = cc in
        other (sym of_n ∙ ap key one))) ∙ was_x)

  -- after a new entry was put in a free place
  module _ (new_key : (n : ℕ) → key (new n) ≡ n) (t : Listing E) (b i : ℕ) (unlisted : index_of key b t ≡ None)
      (lowest : free_index t ≡ Some i) where
    free_there : (entry_at t i ≡ None) × (i < length t.entries)
    free_there = free_at t i lowest

    now_there : entry_at (with_entry i (Some (new b)) t) i ≡ Some (new b)
    now_there = get_or-set_same t.entries i (Some (new b)) None free_there.1

    pub index_of-new_same : index_of key b (with_entry i (Some (new b)) t) ≡ Some i
    index_of-new_same =
        let inside : i < length (slice_set t.entries i (Some (new b))) = omega (arith, length-set t.entries i (Some (new b)), free_there.1) in
        position-first (lists key b) None (slice_set t.entries i (Some (new b))) i inside
        (lists-key key b (entry_at (with_entry i (Some (new b)) t) i) (new b) now_there (new_key b))
        (λ k l.
        let apart : k ≢ i = λ s. absurd (omega arith) in
        let here : k < length t.entries = omega (arith, free_there.1) in
        ap (lists key b) (get_or-set_other t.entries i k (Some (new b)) None apart) ∙ none-position (lists key b) None t.entries unlisted k here)

    pub index_of-new_other : (n : ℕ) → n ≢ b → index_of key n (with_entry i (Some (new b)) t) ≡ index_of key n t
    index_of-new_other n other =
        position-pointwise (lists key n) None t.entries (slice_set t.entries i (Some (new b))) (length-set t.entries i (Some (new b)))
        (λ k. elim (cases_eq k i) as (λ _. lists key n (entry_at (with_entry i (Some (new b)) t) k) ≡ lists key n (entry_at t k)) [
          | inl s ↦
              ap (λ j. lists key n (entry_at (with_entry i (Some (new b)) t) j)) s ∙ ap (lists key n) now_there
              ∙ ap (λ m. m == n) (new_key b) ∙ ne_eqb b n (λ e. other (sym e)) ∙ sym (ap (lists key n) free_there.0)
              ∙ sym (ap (λ j. lists key n (entry_at t j)) s)
          | inr o ↦ ap (lists key n) (get_or-set_other t.entries i k (Some (new b)) None o)
        ])

    pub entry_for-new : (n : ℕ) → entry_for key new n (with_entry i (Some (new b)) t) ≡ entry_for key new n t
    entry_for-new n = elim (cases_eq n b) as (λ _. entry_for key new n (with_entry i (Some (new b)) t) ≡ entry_for key new n t) [
      | inl s ↦
          ap (λ m. entry_for key new m (with_entry i (Some (new b)) t)) s
          ∙ entry_for-some (with_entry i (Some (new b)) t) b i (new b) index_of-new_same now_there
          ∙ sym (entry_for-none t b unlisted) ∙ sym (ap (λ m. entry_for key new m t) s)
      | inr o ↦ entry_for-kept t (with_entry i (Some (new b)) t) n (index_of-new_other n o)
          (λ k x was of_n. entry_at-put t i (Some (new b)) free_there.0 k x was)
    ]

  -- what holds of a table, and with a new entry in its lowest free place, holds with an entry for a
  -- number
  pub by_entry_for : (P : Listing E → Type 0) (t : Listing E) (b : ℕ) → P t
      → ((i : ℕ) → index_of key b t ≡ None → free_index t ≡ Some i
      → P (with_entry i (Some (new b)) t)) → P (with_entry_for key new b t)
  by_entry_for P t b same put = by_place (index_of key b t) refl where
    by_free : index_of key b t ≡ None → (o : Option ℕ) → free_index t ≡ o
        → P (record t { entries = added_at o (new b) t.entries })
    by_free h None f = same
    by_free h (Some i) f = put i h f

    by_place : (o : Option ℕ) → index_of key b t ≡ o → P (with_found key new o b t)
    by_place (Some i) h = same
    by_place None h = by_free h (free_index t) refl

  -- if an entry is free, the number is listed then
  pub index_of-with_same : ((n : ℕ) → key (new n) ≡ n) → (t : Listing E) (b : ℕ) → (free_index t ≡ None → ⊥)
      → (i : ℕ) × (index_of key b (with_entry_for key new b t) ≡ Some i)
  index_of-with_same new_key t b some = by_place (index_of key b t) refl where
    by_free : index_of key b t ≡ None → (o : Option ℕ) → free_index t ≡ o
        → (i : ℕ) × (index_of key b (record t { entries = added_at o (new b) t.entries }) ≡ Some i)
    by_free h None f = absurd (some f)
    by_free h (Some i) f = (i, index_of-new_same new_key t b i h f)

    by_place : (o : Option ℕ) → index_of key b t ≡ o → (i : ℕ) × (index_of key b (with_found key new o b t) ≡ Some i)
    by_place (Some i) h = (i, h)
    by_place None h = by_free h (free_index t) refl

  -- the place of a new entry is the lowest free one
  pub index_for-with_new : ((n : ℕ) → key (new n) ≡ n) → (t : Listing E) (b i : ℕ) → index_of key b t ≡ None → free_index t ≡ Some i
      → index_for key new b (with_entry_for key new b t) ≡ i
  index_for-with_new new_key t b i unlisted lowest =
      ap (λ o. index_for key new b (with_found key new o b t)) unlisted
      ∙ ap (λ o. index_for key new b (record t { entries = added_at o (new b) t.entries })) lowest
      ∙ ap (λ o. unwrap_or o 0) (index_of-new_same new_key t b i unlisted lowest)
