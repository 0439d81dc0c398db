-- Part of the claim.
-- A table: what its entries list, and what each call makes of it.
use Rattle.std.specs.Prelude.{◌≡◌, ◌≢◌, ℕ, ◌+◌, ◌*◌, ◌/◌, ◌%◌, ◌≤◌, ◌<◌, ◌^◌, ◌==◌, Bool, true, false, List, [], length, replicate, map, drop, slice_index_or, slice_set, position, count_by, Option, Some, None, is_none, is_some, option_and_then, refl}
use Rattle.std.specs.Option.{option_map}
use Rattle.std.specs.Coded.{Coded, code_by, coded×, coded_list, coded_option, coded_ℕ}

pub record Listing (E : Type 0) : Type 0 where
  -- the entries by their places, None if a place is free
  pub entries : List (Option E)
  -- the numbers below this one can be listed
  pub numbers : ℕ

-- the first place from one on whose element passes a test
abbrev pub first_from : {X : Type 0} → (X → Bool) → ℕ → List X → Option ℕ
first_from test from xs = option_map (λ k. from + k) (position test (drop from xs))

-- the place that the index of a table has for a number: what the leader of its group of 16 numbers has for it
abbrev pub indexed_at : List ℕ → List (List ℕ) → ℕ → ℕ
indexed_at leaders places n = slice_index_or (slice_index_or places (slice_index_or leaders (n / 16) 0) []) (n % 16) 0

module _ {E : Type 0} where
  abbrev pub listing : List (Option E) → ℕ → Listing E
  listing entries numbers = record { entries = entries; numbers = numbers }

  abbrev pub listing_code : Coded E → Coded (Listing E)
  listing_code code = code_by (List (Option E) × ℕ) (coded× (coded_list (coded_option code)) coded_ℕ) (λ t. (t.entries, t.numbers)) (λ p. listing p.0 p.1) (λ _. refl)

  -- a table of this many free entries
  abbrev pub empty_table : ℕ → ℕ → Listing E
  empty_table size numbers = listing (replicate size None) numbers

  -- the entry at a place, None if the place is free or past the last
  abbrev pub entry_at : Listing E → ℕ → Option E
  entry_at t i = slice_index_or t.entries i None

  -- an entry is live and passes a test
  abbrev pub passes : (E → Bool) → Option E → Bool
  passes test None = false
  passes test (Some e) = test e

  -- an entry lists a number
  abbrev pub lists : (E → ℕ) → ℕ → Option E → Bool
  lists key n = passes (λ e. key e == n)

  -- an entry lists a number of a group of 16
  abbrev pub leads : (E → ℕ) → ℕ → Option E → Bool
  leads key g = passes (λ e. key e / 16 == g)

  -- the place of the entry that lists a number
  abbrev pub index_of : (E → ℕ) → ℕ → Listing E → Option ℕ
  index_of key n t = position (lists key n) t.entries

  -- the lowest free entry
  abbrev pub free_index : Listing E → Option ℕ
  free_index t = position is_none t.entries

  -- how many entries are free
  abbrev pub free_count : Listing E → ℕ
  free_count t = count_by is_none t.entries

  -- another entry at a place, or none
  abbrev pub with_entry : ℕ → Option E → Listing E → Listing E
  with_entry i entry t = record t { entries = slice_set t.entries i entry }

  -- entries with one more at a free place, if there is one
  abbrev pub added_at : Option ℕ → E → List (Option E) → List (Option E)
  added_at None e es = es
  added_at (Some i) e es = slice_set es i (Some e)

  -- a table with one more entry, in the lowest free place
  abbrev pub added : E → Listing E → Listing E
  added e t = record t { entries = added_at (free_index t) e t.entries }

  -- every live entry after a rule, which clears those for which it gives None
  abbrev pub mapped : (E → Option E) → Listing E → Listing E
  mapped rule t = record t { entries = map (option_and_then rule) t.entries }

  -- the first live entry from a place on that passes a test
  abbrev pub next_from : (E → Bool) → ℕ → Listing E → Option ℕ
  next_from test from t = first_from (passes test) from t.entries

  -- no number is listed twice
  pub record IsListing (key : E → ℕ) (t : Listing E) : Type 0 where
    -- a number that an entry lists is found there, and so at no other
    pub found : (i n : ℕ) → lists key n (entry_at t i) ≡ true → index_of key n t ≡ Some i
    pub inside : (i n : ℕ) → lists key n (entry_at t i) ≡ true → n < t.numbers

  -- the entry at a place leads a group, and by its places no other entry lists a number of the group
  abbrev pub IsLastOf : (E → ℕ) → ℕ → List (Option E) → List ℕ → ℕ → ℕ → Type 0
  IsLastOf key g entries places leader i = (leader ≡ i) × ((k : ℕ) → k < 16 → slice_index_or places k 0 ≢ i
      → lists key (16 * g + k) (slice_index_or entries (slice_index_or places k 0) None) ≡ false)

  -- what holds of the parts of a table: its entries, the leaders by group, the places by leader and number, a place
  -- that no free entry lies below, and a count
  pub record IsSoundTable (key : E → ℕ) (entries : List (Option E)) (numbers : ℕ) (leaders : List ℕ) (places : List (List ℕ)) (lowest free : ℕ) : Type 0 where
    -- the index has the place of each entry for the number that it lists
    pub listed : (i n : ℕ) → lists key n (slice_index_or entries i None) ≡ true → indexed_at leaders places n ≡ i
    -- if an entry lists a number of a group, the entry at the leader's place lists one too
    pub led : (i n : ℕ) → lists key n (slice_index_or entries i None) ≡ true → leads key (n / 16) (slice_index_or entries (slice_index_or leaders (n / 16) 0) None) ≡ true
    pub inside : (i n : ℕ) → lists key n (slice_index_or entries i None) ≡ true → n < numbers
    pub groups : numbers < 16 * length leaders
    pub wide : (i : ℕ) → i < length places → length (slice_index_or places i []) ≡ 16
    pub as_many : length places ≡ length entries
    pub full_below : (i : ℕ) → i < lowest → is_some (slice_index_or entries i None) ≡ true
    pub counted : free ≡ count_by is_none entries
    pub few : length entries ≤ 2 ^ 32

  -- each live entry lies below this place
  pub record AreLiveBelow (entries : List (Option E)) (end : ℕ) : Type 0 where
    pub free : (i : ℕ) → end ≤ i → slice_index_or entries i None ≡ None
    pub within : end ≤ length entries
