-- The pool stays sound over what its calls make of it, also as a frame is filled and as a map is listed; and a start's table.
use Rattle.std.proofs.Common.{◌≡◌, ◌≢◌, ℕ, ◌+◌, ◌-◌, ◌<◌, ◌≤◌, Bool, true, false, nat_lt, if◌then◌else◌, length, Option, Some, None, is_some, refl, sym, ◌∙◌, ap, subst, inl, inr, arith, unwrap_or, ◌*◌, List}
use Rattle.std.specs.Option.{option_and_then}
use Rattle.std.proofs.lemmas.Bool.{cases_eq, cases_lt, lt-ltb, ltb-true, le-ltb}
use Rattle.std.proofs.lemmas.List.{length-map, length-set, length-replicate, get_or_past, ext_get_or}
use Rattle.std.proofs.lemmas.List.FromFn.{length-map-range_with_len, get_or-map-range_with_len}
use Rattle.thy_block.specs.declared.parameters.Parameters.{Parameters}
use Rattle.thy_block.specs.Geometry.{IsInRange}
use Rattle.thy_block.proofs.BasicLemmas.{not_some, some_same}
use Rattle.thy_block.specs.Places.{dram_blocks}
use Rattle.thy_dram.specs.Contents.{Contents}
use Rattle.thy_table.specs.Listing.{Listing, IsListing, listing, entry_at, lists, index_of, free_index, with_entry, added_at, mapped, empty_table, free_count}
use Rattle.thy_table.proofs.IndexLemmas.{lists-some, lists-key, some-counted}
use Rattle.thy_table.proofs.ListingLaws.{entry_at-with_same, entry_at-with_other, entry_at-empty, free_first, IsListing-put, index_of-put, index_of-put_other, entry_at-cleared, IsListing-free}
use Rattle.thy_layout.specs.Entries.{Lists, entry_at as listed_at}
use Rattle.thy_images.specs.ShadowPlaces.{pool_pages, map_blocks}
use Rattle.thy_images.specs.ShadowSlots.{IsMap}
use Rattle.thy_shadow_parts.specs.declared.entry.Begun.{Begun}
use Rattle.thy_shadow_parts.specs.declared.entry.Framed.{Framed}
use Rattle.thy_shadow_parts.specs.declared.entry.Held.{Held}
use Rattle.thy_shadow_parts.specs.Commit.{sealed_state, committed_pool, committed_state}
use Rattle.thy_shadow_parts.specs.Keys.{number_key, page_key, held, framed, freed_frame, freed_held}
use Rattle.thy_shadow_parts.specs.State.{State, state_in, IsBegun, IsSoundState, ListsBelow, frame_of, pool_of, table_by}
use Rattle.thy_shadow_parts.specs.Stores.{first_entry, first_entries, filled, new_state, free_frame}
use Rattle.thy_shadow_parts.proofs.CommitLemmas.{held_lists, some_of, IsListing-committed, pool_of-committed, target-committed, unlisted, held_is, held_same}
use Rattle.thy_shadow_parts.proofs.TableLemmas.{next_there, length-table_by, listed_at-table_by, entry_page}
use Rattle.thy_shadow_parts.proofs.CommittingLemmas.{listing_same}
use Rattle.thy_shadow_parts.proofs.CountLemmas.{room}
use Rattle.thy_shadow_parts.specs.Listed.{HoldsMap}

-- ---- no frame is filled

-- a pool of the geometry with every page of memory, and nothing in a frame
pub IsSoundState-idle : (p : Parameters) (pool : Listing Held) (frames : Listing Framed) (dram : Contents) → IsInRange p
    → length pool.entries ≡ pool_pages p → pool.numbers ≡ pool_pages p → length frames.entries ≡ p.ptt → frames.numbers ≡ p.pages
    → length dram.blocks ≡ dram_blocks p → IsListing number_key pool → IsListing page_key frames
    → ((x : ℕ) → x < p.pages → is_some (index_of number_key x pool) ≡ true)
    → ((j : ℕ) → index_of number_key (p.pages + j) pool ≡ None) → ((j : ℕ) → entry_at frames j ≡ None)
    → IsSoundState (state_in p pool frames None dram)
IsSoundState-idle p pool frames dram range pool_size pool_numbers frames_size frames_numbers dram_size pool_once frames_once mapped
    unclaimed free =
    record {
      range = range;
      pool_size = pool_size;
      pool_numbers = pool_numbers;
      frames_size = frames_size;
      frames_numbers = frames_numbers;
      dram_size = dram_size;
      pool_once = pool_once;
      frames_once = frames_once;
      mapped = mapped;
      claimed = λ j. ap is_some (free j) ∙ sym (ap is_some (unclaimed j));
      lowest = λ j q r goes below. let no : None ≡ Some q = sym (unclaimed j) ∙ goes in absurd (cc);
      dense = λ i j l some. let no : false ≡ true = sym (ap is_some (free j)) ∙ some in absurd (cc);
      begun = λ b is. (cc);
    }

-- ---- when power comes on

pub length-first : (p : Parameters) → length (first_entries p) ≡ pool_pages p
length-first p = length-map-range_with_len (first_entry p) 0 (pool_pages p)

first_past : (p : Parameters) (q : ℕ) → p.pages ≤ q → first_entry p q ≡ None
first_past p q l = ap (λ b. if b then Some (held q) else None) (le-ltb q p.pages l)

pub first_page : (p : Parameters) (q : ℕ) → q < p.pages → first_entry p q ≡ Some (held q)
first_page p q l = ap (λ b. if b then Some (held q) else None) (lt-ltb q p.pages l)

pub entry_at-first : (p : Parameters) (n q : ℕ) → entry_at (listing (first_entries p) n) q ≡ first_entry p q
entry_at-first p n q = elim (cases_lt q (pool_pages p)) as (λ _. entry_at (listing (first_entries p) n) q ≡ first_entry p q) [
  | inl l ↦ get_or-map-range_with_len (first_entry p) 0 (pool_pages p) q q None l (omega arith)
  | inr l ↦ get_or_past (first_entries p) q None (omega (arith, l, length-first p)) ∙ sym (first_past p q (omega (arith, l)))
]

-- an entry of a new pool lists the page of its own number
pub first_lists : (p : Parameters) (q n : ℕ) (low : Bool) → nat_lt q p.pages ≡ low
    → lists number_key n (if low then Some (held q) else None) ≡ true → (q < p.pages) × (q ≡ n)
first_lists p q n true l h =
    let of = lists-some number_key n (Some (held q)) h in let same : held q ≡ of.0 = cc in (ltb-true q p.pages l, ap number_key same ∙ of.2)
first_lists p q n false l h = cc

pub IsSoundState-new : (p : Parameters) (dram : Contents) → IsInRange p → length dram.blocks ≡ dram_blocks p
    → IsListing number_key (listing (first_entries p) (pool_pages p)) → IsListing page_key (empty_table {E = Framed} p.ptt p.pages)
    → IsSoundState (new_state p dram)
IsSoundState-new p dram range dram_size pool_once frames_once =
    let pool : Listing Held = listing (first_entries p) (pool_pages p) in
    let found : (x : ℕ) → x < p.pages → index_of number_key x pool ≡ Some x
    = λ x l. pool_once.found x x (held_lists x (entry_at pool x) (entry_at-first p (pool_pages p) x ∙ first_page p x l)) in
    let unclaimed : (j : ℕ) → index_of number_key (p.pages + j) pool ≡ None
    = λ j. unlisted pool (p.pages + j) (λ q listed.
    let is = first_lists p q (p.pages + j) (nat_lt q p.pages) refl
    (sym (ap (lists number_key (p.pages + j)) (entry_at-first p (pool_pages p) q)) ∙ listed) in
    omega (arith, is.0, is.1)) in
    IsSoundState-idle p pool (empty_table p.ptt p.pages) dram range (length-first p) refl
    (length-replicate {A = Option Framed} p.ptt None) refl dram_size pool_once frames_once
    (λ x l. ap is_some (found x l)) unclaimed (entry_at-empty p.ptt p.pages)

-- ---- a frame is begun, or no more

-- with another frame begun, or none, and another DRAM of the same size
pub IsSoundState-over : (s : State) (begun : Option Begun) (dram : Contents) → IsSoundState s → length dram.blocks ≡ length s.dram.blocks
    → ((b : Begun) → begun ≡ Some b → IsBegun s b) → IsSoundState (record s { begun = begun; dram = dram })
IsSoundState-over s begun dram h long of = record {
  range = h.range;
  pool_size = h.pool_size;
  pool_numbers = h.pool_numbers;
  frames_size = h.frames_size;
  frames_numbers = h.frames_numbers;
  dram_size = long ∙ h.dram_size;
  pool_once = h.pool_once;
  frames_once = h.frames_once;
  mapped = h.mapped;
  claimed = h.claimed;
  lowest = h.lowest;
  dense = h.dense;
  begun = λ b is. let at = of b is in record { page = at.page; unframed = at.unframed; few = at.few; room = at.room };
}

pub IsSoundState-begun : (s : State) (b : Begun) → IsSoundState s → IsBegun s b → IsSoundState (record s { begun = Some b })
IsSoundState-begun s b h of = IsSoundState-over s (Some b) s.dram h refl (λ c is. subst (IsBegun s) (some_same b c is) of)

pub IsSoundState-sealed : (s : State) → IsSoundState s → IsSoundState (sealed_state s)
IsSoundState-sealed s h = IsSoundState-over s None s.dram h refl (λ b is. cc)

-- ---- a frame is filled

module _ (s : State) (h : IsSoundState s) (x j q : ℕ) (page : x < s.p.pages) (unframed : frame_of s x ≡ None)
    (frame : free_index s.frames ≡ Some j) (place : free_index s.pool ≡ Some q) where
  abbrev frames : Listing Framed
  frames = with_entry j (Some (framed x)) s.frames

  abbrev pool : Listing Held
  pool = with_entry q (Some (held (s.p.pages + j))) s.pool

  pub filled_state : filled j x s ≡ state_in s.p pool frames None s.dram
  filled_state =
      λ i. state_in s.p (record s.pool { entries = added_at (place i) (held (s.p.pages + j)) s.pool.entries })
      (record s.frames { entries = added_at (frame i) (framed x) s.frames.entries }) None s.dram

  at_frame : (j < length s.frames.entries) × (entry_at s.frames j ≡ None) × ((k : ℕ) → k < j → is_some (entry_at s.frames k) ≡ true)
  at_frame = free_first s.frames j frame

  at_place : (q < length s.pool.entries) × (entry_at s.pool q ≡ None) × ((k : ℕ) → k < q → is_some (entry_at s.pool k) ≡ true)
  at_place = free_first s.pool q place

  pub unclaimed : pool_of s (s.p.pages + j) ≡ None
  unclaimed = not_some (pool_of s (s.p.pages + j)) (sym (h.claimed j) ∙ ap is_some at_frame.1)

  number : s.p.pages + j < s.pool.numbers
  number = omega (arith, at_frame.0, h.frames_size, h.pool_numbers)

  found : index_of number_key (s.p.pages + j) pool ≡ Some q
  found = index_of-put number_key s.pool h.pool_once q (held (s.p.pages + j)) at_place.0 unclaimed number

  found_other : (n : ℕ) → n ≢ s.p.pages + j → index_of number_key n pool ≡ pool_of s n
  found_other n other =
      index_of-put_other number_key s.pool h.pool_once q (held (s.p.pages + j)) n at_place.0 at_place.1 unclaimed number other

  here : entry_at frames j ≡ Some (framed x)
  here = entry_at-with_same s.frames j (Some (framed x)) at_frame.0

  fits : x < s.frames.numbers
  fits = subst (λ (n : ℕ). x < n) (sym h.frames_numbers) page

  elsewhere : (i : ℕ) → i ≢ j → entry_at frames i ≡ entry_at s.frames i
  elsewhere i other = entry_at-with_other s.frames j i (Some (framed x)) other

  claimed_by : (i : ℕ) → is_some (entry_at frames i) ≡ is_some (index_of number_key (s.p.pages + i) pool)
  claimed_by i = elim (cases_eq i j) as (λ _. is_some (entry_at frames i) ≡ is_some (index_of number_key (s.p.pages + i) pool)) [
    | inl same ↦
        ap is_some (ap (entry_at frames) same ∙ here) ∙ sym (ap is_some (ap (λ k. index_of number_key (s.p.pages + k) pool) same ∙ found))
    | inr other ↦
        let apart : s.p.pages + i ≢ s.p.pages + j = λ e. other (omega (arith, e)) in
        ap is_some (elsewhere i other) ∙ h.claimed i ∙ sym (ap is_some (found_other (s.p.pages + i) apart))
  ]

  -- a frame at a number that the pool lists is filled, and therefore below the lowest free one
  filled_below : (k t : ℕ) → pool_of s (s.p.pages + k) ≡ Some t → k < j
  filled_below k t goes = elim (cases_lt k j) as (λ _. k < j) [
    | inl below ↦ below
    | inr over ↦
        let full : is_some (entry_at s.frames k) ≡ true = h.claimed k ∙ ap is_some goes in
        elim (cases_eq k j) as (λ _. k < j) [
          | inl same ↦
              let no : false ≡ true = sym (ap is_some (ap (entry_at s.frames) same ∙ at_frame.1)) ∙ full in absurd (cc)
          | inr other ↦
              let no : false ≡ true = sym (ap is_some at_frame.1) ∙ h.dense j k (omega (arith, over, other)) full in absurd (cc)
        ]
  ]

  -- each number that the pool lists is below the new one
  number_below : (t : ℕ) (e : Held) → entry_at s.pool t ≡ Some e → e.number < s.p.pages + j
  number_below t e is = elim (cases_lt e.number s.p.pages) as (λ _. e.number < s.p.pages + j) [
    | inl page ↦ omega (arith, page)
    | inr frame ↦
        let listed : pool_of s e.number ≡ Some t
        = h.pool_once.found t e.number (lists-key number_key e.number (entry_at s.pool t) e is refl) in
        let number : s.p.pages + (e.number - s.p.pages) ≡ e.number = omega (arith, frame) in
        let below = filled_below (e.number - s.p.pages) t (ap (pool_of s) number ∙ listed) in
        omega (arith, frame, below)
  ]

  lowest_new : (t : ℕ) → t < q → ListsBelow s.pool (s.p.pages + j) t
  lowest_new t l =
      let of = some_of (entry_at s.pool t) (at_place.2 t l) in
      record { held = of.0; here = of.1; below = number_below t of.0 of.1 }

  -- what was listed at a page still is
  listed_still : (n t : ℕ) → ListsBelow s.pool n t → ListsBelow pool n t
  listed_still n t of = record {
    held = of.held;
    here = entry_at-with_other s.pool q t (Some (held (s.p.pages + j)))
        (λ e. let no : Some of.held ≡ None = sym of.here ∙ ap (entry_at s.pool) e ∙ at_place.1 in cc) ∙ of.here;
    below = of.below;
  }

  lowest_by : (i r t : ℕ) → index_of number_key (s.p.pages + i) pool ≡ Some r → t < r → ListsBelow pool (s.p.pages + i) t
  lowest_by i r t goes l = elim (cases_eq i j) as (λ _. ListsBelow pool (s.p.pages + i) t) [
    | inl same ↦
        let at : r ≡ q = (let now = ap (λ k. index_of number_key (s.p.pages + k) pool) same in let found_at = found in cc) in
        subst (λ (k : ℕ). ListsBelow pool (s.p.pages + k) t) (sym same)
        (listed_still (s.p.pages + j) t (lowest_new t (omega (arith, at, l))))
    | inr other ↦
        let apart : s.p.pages + i ≢ s.p.pages + j = λ e. other (omega (arith, e)) in
        listed_still (s.p.pages + i) t (h.lowest i r t (sym (found_other (s.p.pages + i) apart) ∙ goes) l)
  ]

  dense_by : (i k : ℕ) → i < k → is_some (entry_at frames k) ≡ true → is_some (entry_at frames i) ≡ true
  dense_by i k l some = elim (cases_eq i j) as (λ _. is_some (entry_at frames i) ≡ true) [
    | inl same ↦ ap is_some (ap (entry_at frames) same ∙ here)
    | inr other ↦ ap is_some (elsewhere i other)
        ∙ elim (cases_eq k j) as (λ _. is_some (entry_at s.frames i) ≡ true) [
          | inl last ↦ at_frame.2 i (subst (λ (m : ℕ). i < m) last l)
          | inr old ↦ h.dense i k l (sym (ap is_some (elsewhere k old)) ∙ some)
        ]
  ]

  pub full_sound : IsSoundState (state_in s.p pool frames None s.dram)
  full_sound = record {
    range = h.range;
    pool_size = length-set s.pool.entries q (Some (held (s.p.pages + j))) ∙ h.pool_size;
    pool_numbers = h.pool_numbers;
    frames_size = length-set s.frames.entries j (Some (framed x)) ∙ h.frames_size;
    frames_numbers = h.frames_numbers;
    dram_size = h.dram_size;
    pool_once = IsListing-put number_key s.pool h.pool_once q (held (s.p.pages + j)) at_place.0 unclaimed number;
    frames_once = IsListing-put page_key s.frames h.frames_once j (framed x) at_frame.0 unframed fits;
    mapped = λ y l. ap is_some (found_other y (λ e. absurd (omega (arith, e, l)))) ∙ h.mapped y l;
    claimed = claimed_by;
    lowest = lowest_by;
    dense = dense_by;
    begun = λ c is. (cc);
  }

  pub IsSoundState-filled : IsSoundState (filled j x s)
  IsSoundState-filled = subst (λ (t : State). IsSoundState t) (sym filled_state) full_sound

-- ---- the frames are committed

pub IsSoundState-committed : (s : State) → IsSoundState s → IsSoundState (committed_state s)
IsSoundState-committed s h =
    let free : (j : ℕ) → entry_at (mapped freed_frame s.frames) j ≡ None = entry_at-cleared freed_frame (λ e. refl) s.frames in
    IsSoundState-idle s.p (committed_pool s.p.ptt s.p s.frames s.pool) (mapped freed_frame s.frames) s.dram h.range
    (length-map s.pool.entries _ ∙ h.pool_size) h.pool_numbers
    (length-map s.frames.entries (option_and_then freed_frame) ∙ h.frames_size) h.frames_numbers h.dram_size
    (IsListing-committed s h) (IsListing-free page_key (mapped freed_frame s.frames) free)
    (λ x l. ap is_some (pool_of-committed s h x l) ∙ next_there s h x (frame_of s x) refl l)
    (target-committed s h) free

-- the first x pages are listed
pub record AreFirst (p : Parameters) (x : ℕ) (t : Listing Held) : Type 0 where
  pub size : length t.entries ≡ pool_pages p
  pub numbers : t.numbers ≡ pool_pages p
  pub each : (q : ℕ) → entry_at t q ≡ (if nat_lt q x then first_entry p q else None)

module _ (p : Parameters) (x : ℕ) (t : Listing Held) (h : AreFirst p x t) where
  listed_low : (q n : ℕ) (before low : Bool) → nat_lt q x ≡ before → nat_lt q p.pages ≡ low
      → lists number_key n (if before then (if low then Some (held q) else None) else None) ≡ true → (nat_lt q x ≡ true) × (q ≡ n)
  listed_low q n true true b l h =
      let of = lists-some number_key n (Some (held q)) h in let same : held q ≡ of.0 = cc in (b, ap number_key same ∙ of.2)
  listed_low q n before low b l h = cc

  pub first_unlisted : index_of number_key x t ≡ None
  first_unlisted = unlisted t x (λ q listed.
      let is = listed_low q x (nat_lt q x) (nat_lt q p.pages) refl refl (sym (ap (lists number_key x) (h.each q)) ∙ listed) in
      let before : nat_lt x x ≡ true = sym (ap (λ m. nat_lt m x) is.1) ∙ is.0 in
      let no : false ≡ true = sym (le-ltb x x (omega arith)) ∙ before in cc)

  -- with every page it is the one of a start
  pub first_all : p.pages ≤ x → t ≡ listing (first_entries p) (pool_pages p)
  first_all l = listing_same t (listing (first_entries p) (pool_pages p)) (h.size ∙ sym (length-first p)) h.numbers
      (λ q. h.each q
      ∙ elim (cases_lt q x) as (λ _. (if nat_lt q x then first_entry p q else None) ≡ first_entry p q) [
        | inl below ↦ ap (λ b. if b then first_entry p q else None) (lt-ltb q x below)
        | inr above ↦ ap (λ b. if b then first_entry p q else None) (le-ltb q x above)
            ∙ sym (ap (λ b. if b then Some (held q) else None) (le-ltb q p.pages (omega (arith, above, l))))
      ]
      ∙ sym (entry_at-first p (pool_pages p) q))

-- the lowest free frame is free
pub free_frame_is : (s : State) → 0 < free_count s.frames → free_index s.frames ≡ Some (free_frame s)
free_frame_is s more = by_place (free_index s.frames) refl where
  by_place : (o : Option ℕ) → free_index s.frames ≡ o → o ≡ Some (unwrap_or o 0)
  by_place None e = let none = (some-counted s.frames.entries None e).1 more in absurd (cc)
  by_place (Some j) e = refl

-- if a frame is free, a page of the pool is free
pub free_page : (s : State) → IsSoundState s → 0 < free_count s.frames → (q : ℕ) × (free_index s.pool ≡ Some q)
free_page s h more = by_place (free_index s.pool) refl where
  by_place : (o : Option ℕ) → free_index s.pool ≡ o → (q : ℕ) × (free_index s.pool ≡ Some q)
  by_place None e = let none = (some-counted s.pool.entries None e).1 (omega (arith, more, room s h)) in absurd (cc)
  by_place (Some q) e = (q, e)

module _ (s : State) (h : IsSoundState s) (x : ℕ) (page : x < s.p.pages) (unframed : frame_of s x ≡ None)
    (more : 0 < free_count s.frames) where
  abbrev goes : (q : ℕ) × (free_index s.pool ≡ Some q)
  goes = free_page s h more

  -- the lowest free frame has no page of the pool yet
  pub unclaimed_free : pool_of s (s.p.pages + free_frame s) ≡ None
  unclaimed_free = unclaimed s h x (free_frame s) goes.0 page unframed (free_frame_is s more) goes.1

  pub IsSoundState-claimed : IsSoundState (filled (free_frame s) x s)
  IsSoundState-claimed = IsSoundState-filled s h x (free_frame s) goes.0 page unframed (free_frame_is s more) goes.1

-- ---- page by page

-- the pool lists no page of the map once every entry is free
pub holds_none : (table : List (Option ℕ)) (old : Listing Held) → HoldsMap 0 table old (mapped freed_held old)
holds_none table old = record {
  size = length-map old.entries (option_and_then freed_held);
  numbers = refl;
  there = λ x q l m. absurd (omega (arith, l));
  only = λ x q is.
      let none : None ≡ Some (held x) = sym (entry_at-cleared freed_held (λ e. refl) old q) ∙ is in absurd (cc);
}

module _ (k : ℕ) (table : List (Option ℕ)) (old t : Listing Held) (h : HoldsMap k table old t) where
  -- a pool that lists a map up to a page, seen from itself
  pub holds_here : HoldsMap k table t t
  holds_here = record { size = refl; numbers = refl; there = h.there; only = h.only }

  -- a pool that lists a map up to a page, seen from where the listing began
  pub holds_since : (n : ℕ) (u : Listing Held) → HoldsMap n table t u → HoldsMap n table old u
  holds_since n u g = record { size = g.size ∙ h.size; numbers = g.numbers ∙ h.numbers; there = g.there; only = g.only }

module _ (k : ℕ) (table : List (Option ℕ)) (t : Listing Held) (h : HoldsMap k table t t) where
  -- the next page isn't listed yet
  pub holds_unlisted : index_of number_key k t ≡ None
  holds_unlisted = unlisted t k (λ q listed. omega (arith, (h.only k q (held_is k (entry_at t q) listed)).0))

  -- the map has none for it
  pub holds_skip : listed_at table k ≡ None → HoldsMap (k + 1) table t t
  holds_skip none = record {
    size = refl;
    numbers = refl;
    there = λ x q l m. elim (cases_eq x k) as (λ _. entry_at t q ≡ Some (held x)) [
      | inl same ↦ let both : None ≡ Some q = sym none ∙ sym (ap (listed_at table) same) ∙ m.is in absurd (cc)
      | inr other ↦ h.there x q (omega (arith, l, other)) m
    ];
    only = λ x q is. let of = h.only x q is in (omega (arith, of.0), of.1);
  }

  module _ (p : Parameters) (whole : IsMap p table) (q : ℕ) (listed : Lists table k q) where
    -- the entry of the page of the pool is free
    pub holds_free : entry_at t q ≡ None
    holds_free = by_entry (entry_at t q) refl where
      by_entry : (o : Option Held) → entry_at t q ≡ o → entry_at t q ≡ None
      by_entry None e = e
      by_entry (Some x) e =
          let of = h.only x.number q e in
          absurd (omega (arith, of.0, whole.once x.number k q of.1 listed))

    -- after page k is listed, the pool lists the map up to k + 1
    pub holds_put : q < length t.entries → HoldsMap (k + 1) table t (with_entry q (Some (held k)) t)
    holds_put inside =
        let u : Listing Held = with_entry q (Some (held k)) t in
        let here : entry_at u q ≡ Some (held k) = entry_at-with_same t q (Some (held k)) inside in
        record {
          size = length-set t.entries q (Some (held k));
          numbers = refl;
          there = λ x r l m. elim (cases_eq x k) as (λ _. entry_at u r ≡ Some (held x)) [
            | inl same ↦
                let both : Some r ≡ Some q = sym m.is ∙ ap (listed_at table) same ∙ listed.is in
                let place : r ≡ q = cc in
                ap (entry_at u) place ∙ here ∙ sym (ap (λ n. Some (held n)) same)
            | inr other ↦
                entry_at-with_other t q r (Some (held k))
                (λ place. other (whole.once x k r m (record { is = listed.is ∙ sym (ap Some place) })))
                ∙ h.there x r (omega (arith, l, other)) m
          ];
          only = λ x r is. elim (cases_eq r q) as (λ _. (x < k + 1) × Lists table x r) [
            | inl place ↦
                let both : Some (held k) ≡ Some (held x) = sym here ∙ sym (ap (entry_at u) place) ∙ is in
                let same : k ≡ x = held_same k x both in
                (omega (arith, same), record { is = ap (listed_at table) (sym same) ∙ listed.is ∙ sym (ap Some place) })
            | inr other ↦
                let of = h.only x r (sym (entry_at-with_other t q r (Some (held k)) other) ∙ is) in (omega (arith, of.0), of.1)
          ];
        }

-- ---- all of them

-- once every page of memory is, no other is left
pub holds_all : (k : ℕ) (p : Parameters) (table : List (Option ℕ)) (old t : Listing Held) → IsMap p table → p.pages ≤ k
    → HoldsMap k table old t
    → HoldsMap p.pages table old t
holds_all k p table old t whole l h = record {
  size = h.size;
  numbers = h.numbers;
  there = λ x q below m. h.there x q (omega (arith, below, l)) m;
  only = λ x q is. let of = h.only x q is in (whole.of_page x q of.1, of.1);
}

module _ (p : Parameters) (table : List (Option ℕ)) (old t : Listing Held) (whole : IsMap p table) (h : HoldsMap p.pages table old t)
    (once : IsListing number_key t) where
  page_found : (x : ℕ) → x < p.pages → (q : ℕ) × Lists table x q × (index_of number_key x t ≡ Some q)
  page_found x l =
      let page = whole.mapped x l in
      (page.0, page.1, once.found page.0 x (held_lists x (entry_at t page.0) (h.there x page.0 l page.1)))

  -- every page of memory is listed, and no frame's page is
  pub listed_mapped : (x : ℕ) → x < p.pages → is_some (index_of number_key x t) ≡ true
  listed_mapped x l = ap is_some (page_found x l).2

  pub listed_unclaimed : (j : ℕ) → index_of number_key (p.pages + j) t ≡ None
  listed_unclaimed j =
      unlisted t (p.pages + j) (λ q listed. omega (arith, (h.only (p.pages + j) q (held_is (p.pages + j) (entry_at t q) listed)).0))

  past_empty : (x : ℕ) (o : Option ℕ) → p.pages ≤ x → listed_at table x ≡ o → o ≡ None
  past_empty x None l e = refl
  past_empty x (Some q) l e = let low = whole.of_page x q (record { is = e }) in absurd (omega (arith, low, l))

  -- the map of the table is the one in the slot
  pub listed_table : table_by p (λ x. index_of number_key x t) ≡ table
  listed_table =
      let of : ℕ → Option ℕ = λ x. index_of number_key x t in
      ext_get_or None (table_by p of) table (length-table_by p of ∙ sym whole.long)
      (λ x below.
      let l : x < 8 * map_blocks p = omega (arith, below, length-table_by p of) in
      listed_at-table_by p of x l
      ∙ elim (cases_lt x p.pages) as (λ _. (if nat_lt x p.pages then of x else None) ≡ listed_at table x) [
        | inl low ↦ let is = page_found x low in entry_page p of x low ∙ is.2 ∙ sym is.1.is
        | inr past ↦ ap (λ b. if b then of x else None) (le-ltb x p.pages past) ∙ sym (past_empty x (listed_at table x) past refl)
      ])

-- a pool with it is sound
pub IsSoundState-listed : (s : State) (table : List (Option ℕ)) (t : Listing Held) → IsSoundState s → IsMap s.p table
    → HoldsMap s.p.pages table s.pool t
    → IsListing number_key t → ((j : ℕ) → entry_at s.frames j ≡ None) → IsSoundState (state_in s.p t s.frames None s.dram)
IsSoundState-listed s table t sound whole h once free =
    IsSoundState-idle s.p t s.frames s.dram sound.range (h.size ∙ sound.pool_size) (h.numbers ∙ sound.pool_numbers)
    sound.frames_size sound.frames_numbers
    sound.dram_size once sound.frames_once (listed_mapped s.p table s.pool t whole h once)
    (listed_unclaimed s.p table s.pool t whole h once) free
