-- Where pages are after a commit: each where the map of the next checkpoint had it.
use Rattle.std.proofs.Common.{◌≡◌, ◌⊎◌, ℕ, ◌+◌, ◌-◌, ◌<◌, ◌≤◌, Bool, true, false, nat_lt, if◌then◌else◌, length, map, Option, Some, None, is_some, refl, sym, ◌∙◌, ap, subst, inl, inr, arith}
use Rattle.std.proofs.lemmas.Bool.{cases_lt, lt-ltb, ltb-true, ltb-false, le-ltb}
use Rattle.std.proofs.lemmas.List.{length-map, get_or-map, get_or_past}
use Rattle.thy_block.specs.declared.parameters.Parameters.{Parameters}
use Rattle.thy_table.specs.Listing.{Listing, IsListing, entry_at, lists, index_of}
use Rattle.thy_table.proofs.IndexLemmas.{lists-some, lists-key, lists-inside}
use Rattle.thy_table.proofs.ListingLaws.{index_of-lists, index_of-none, found-once, IsListing-once}
use Rattle.thy_shadow_parts.specs.declared.entry.Held.{Held}
use Rattle.thy_shadow_parts.specs.declared.entry.Framed.{Framed}
use Rattle.thy_shadow_parts.specs.Keys.{number_key, page_key, held, framed}
use Rattle.thy_shadow_parts.specs.Commit.{page_by, is_below, committed_entry, committed_pool, committed_state}
use Rattle.thy_shadow_parts.specs.State.{State, IsSoundState, frame_of, pool_of, target, next_page_by, next_page}

-- ---- entries by what they list

pub held_is : (n : ℕ) (o : Option Held) → lists number_key n o ≡ true → o ≡ Some (held n)
held_is n o h = let of = lists-some number_key n o h in of.1 ∙ ap (λ m. Some (held m)) of.2

pub held_lists : (n : ℕ) (o : Option Held) → o ≡ Some (held n) → lists number_key n o ≡ true
held_lists n o h = lists-key number_key n o (held n) h refl

pub framed_is : (x : ℕ) (o : Option Framed) → lists page_key x o ≡ true → o ≡ Some (framed x)
framed_is x o h = let of = lists-some page_key x o h in of.1 ∙ ap (λ m. Some (framed m)) of.2

pub framed_lists : (x : ℕ) (o : Option Framed) → o ≡ Some (framed x) → lists page_key x o ≡ true
framed_lists x o h = lists-key page_key x o (framed x) h refl

-- entries that are alike list one number
abbrev number_in : Option Held → ℕ
number_in None = 0
number_in (Some e) = e.number

pub held_same : (n m : ℕ) → Some (held n) ≡ Some (held m) → n ≡ m
held_same n m h = ap number_in h

pub framed_same : (x y : ℕ) → Some (framed x) ≡ Some (framed y) → x ≡ y
framed_same x y h = ap page_by h

pub some_of : {X : Type 0} (o : Option X) → is_some o ≡ true → (x : X) × (o ≡ Some x)
some_of None h = cc
some_of (Some x) h = (x, refl)

-- a number that no entry lists is at no place
not_true : (b : Bool) → (b ≡ true → ⊥) → b ≡ false
not_true true never = absurd (never refl)
not_true false never = refl

pub unlisted : (t : Listing Held) (n : ℕ) → ((q : ℕ) → lists number_key n (entry_at t q) ≡ true → ⊥) → index_of number_key n t ≡ None
unlisted t n none = index_of-none number_key t n (λ q. not_true (lists number_key n (entry_at t q)) (none q))

-- a filled frame is there
pub filled-inside : (s : State) (j : ℕ) → IsSoundState s → is_some (entry_at s.frames j) ≡ true → j < s.p.ptt
filled-inside s j h some = elim (cases_lt j s.p.ptt) as (λ _. j < s.p.ptt) [
  | inl inside ↦ inside
  | inr past ↦
      let none : entry_at s.frames j ≡ None = get_or_past s.frames.entries j None (omega (arith, past, h.frames_size)) in
      let both : false ≡ true = sym (ap is_some none) ∙ some in absurd (cc)
]

-- ---- a committed entry

pub entry_at-committed : (k : ℕ) (p : Parameters) (frames : Listing Framed) (pool : Listing Held) (q : ℕ)
    → entry_at (committed_pool k p frames pool) q ≡ committed_entry k p frames (entry_at pool q)
entry_at-committed k p frames pool q =
    elim (cases_lt q (length pool.entries)) as
    (λ _. entry_at (committed_pool k p frames pool) q ≡ committed_entry k p frames (entry_at pool q)) [
      | inl l ↦ get_or-map (committed_entry k p frames) pool.entries q None None l
      | inr l ↦
          let past : length (map (committed_entry k p frames) pool.entries) ≤ q
          = omega (arith, l, length-map pool.entries (committed_entry k p frames)) in
          get_or_past (map (committed_entry k p frames) pool.entries) q None past
          ∙ sym (ap (committed_entry k p frames) (get_or_past pool.entries q None l))
    ]

module _ (k : ℕ) (p : Parameters) (frames : Listing Framed) where
  -- the entry of a page of memory, and the entry of a frame
  pub low : (n : ℕ) → n < p.pages
      → committed_entry k p frames (Some (held n)) ≡ (if is_below k (index_of page_key n frames) then None else Some (held n))
  low n l =
      ap (λ b. if b then (if is_below k (index_of page_key n frames) then None else Some (held n))
      else (if nat_lt (n - p.pages) k then Some (held (page_by (entry_at frames (n - p.pages)))) else Some (held n))) (lt-ltb n p.pages l)

  pub high : (j : ℕ) → committed_entry k p frames (Some (held (p.pages + j)))
      ≡ (if nat_lt j k then Some (held (page_by (entry_at frames j))) else Some (held (p.pages + j)))
  high j =
      let past : nat_lt (p.pages + j) p.pages ≡ false = le-ltb (p.pages + j) p.pages (omega arith) in
      let plain : p.pages + j - p.pages ≡ j = omega arith in
      λ i. if past i then (if is_below k (index_of page_key (p.pages + j) frames) then None else Some (held (p.pages + j)))
      else (if nat_lt (plain i) k then Some (held (page_by (entry_at frames (plain i)))) else Some (held (p.pages + j)))

  -- what a page without a frame had stays its
  stays : (n : ℕ) → n < p.pages → index_of page_key n frames ≡ None → committed_entry k p frames (Some (held n)) ≡ Some (held n)
  stays n l none = low n l ∙ ap (λ o. if is_below k o then None else Some (held n)) none

  -- a place that was held by a frame is held by the frame's page
  moves : (j x : ℕ) → j < k → entry_at frames j ≡ Some (framed x) → committed_entry k p frames (Some (held (p.pages + j))) ≡ Some (held x)
  moves j x l is =
      high j ∙ ap (λ b. if b then Some (held (page_by (entry_at frames j))) else Some (held (p.pages + j))) (lt-ltb j k l)
      ∙ ap (λ o. Some (held (page_by o))) is

-- ---- where a listed number comes from

-- entry q listed page n before, which has no frame, or it listed the frame of page n
abbrev From : State → ℕ → ℕ → Type 0
From s q n =
    ((n < s.p.pages) × (frame_of s n ≡ None) × (entry_at s.pool q ≡ Some (held n)))
    ⊎ ((j : ℕ) × (entry_at s.frames j ≡ Some (framed n)) × (entry_at s.pool q ≡ Some (held (s.p.pages + j))))

module _ (s : State) (h : IsSoundState s) where
  abbrev new : Listing Held
  new = committed_pool s.p.ptt s.p s.frames s.pool

  below_none : (x : ℕ) (o : Option ℕ) → frame_of s x ≡ o → is_below s.p.ptt o ≡ false → frame_of s x ≡ None
  below_none x None e b = e
  below_none x (Some j) e b =
      let here = index_of-lists page_key s.frames x j e in
      let inside : j < s.p.ptt = subst (λ (n : ℕ). j < n) h.frames_size (lists-inside page_key s.frames.entries j x here) in
      let both : false ≡ true = sym b ∙ lt-ltb j s.p.ptt inside in absurd (cc)

  -- a frame that the pool lists is a filled one
  frame_there : (q j : ℕ) → entry_at s.pool q ≡ Some (held (s.p.pages + j))
      → (x : ℕ) × (entry_at s.frames j ≡ Some (framed x)) × (j < s.p.ptt)
  frame_there q j is =
      let found : target s j ≡ Some q = h.pool_once.found q (s.p.pages + j) (held_lists (s.p.pages + j) (entry_at s.pool q) is) in
      let some : is_some (entry_at s.frames j) ≡ true = h.claimed j ∙ ap is_some found in
      let of = some_of (entry_at s.frames j) some in
      (of.0.page, of.1, filled-inside s j h some)

  from_entry : (q n : ℕ) (o : Option Held) → entry_at s.pool q ≡ o → committed_entry s.p.ptt s.p s.frames o ≡ Some (held n) → From s q n
  from_entry q n None is now = cc
  from_entry q n (Some e) is now = by_page (nat_lt e.number s.p.pages) refl where
    by_frame : (below : Bool) → is_below s.p.ptt (frame_of s e.number) ≡ below → nat_lt e.number s.p.pages ≡ true
        → (if below then None else Some e) ≡ Some (held n) → From s q n
    by_frame true b l now = cc
    by_frame false b l now =
        let same : e.number ≡ n = ap number_in now in
        inl (
          subst (λ m. m < s.p.pages) same (ltb-true e.number s.p.pages l),
          ap (frame_of s) (sym same) ∙ below_none e.number (frame_of s e.number) refl b,
          is ∙ ap (λ m. Some (held m)) same,
        )

    by_page : (low : Bool) → nat_lt e.number s.p.pages ≡ low → From s q n
    by_page true l =
        by_frame (is_below s.p.ptt (frame_of s e.number)) refl l
        (sym (ap (λ b. if b then (if is_below s.p.ptt (frame_of s e.number) then None else Some e)
        else (if nat_lt (e.number - s.p.pages) s.p.ptt then Some (held (page_by (entry_at s.frames (e.number - s.p.pages))))
        else Some e)) l) ∙ now)
    by_page false l =
        let past : s.p.pages ≤ e.number = ltb-false e.number s.p.pages l in
        let j : ℕ = e.number - s.p.pages in
        let number : e.number ≡ s.p.pages + j = omega arith in
        let was : entry_at s.pool q ≡ Some (held (s.p.pages + j)) = is ∙ ap (λ m. Some (held m)) number in
        let there = frame_there q j was in
        let moved : Some (held there.0) ≡ Some (held n)
        = sym (moves s.p.ptt s.p s.frames j there.0 there.2 there.1)
        ∙ ap (λ m. committed_entry s.p.ptt s.p s.frames (Some (held m))) (sym number) ∙ now in
        let same : there.0 ≡ n = held_same there.0 n moved in
        inr (j, there.1 ∙ ap (λ m. Some (framed m)) same, was)

  from : (q n : ℕ) → lists number_key n (entry_at new q) ≡ true → From s q n
  from q n listed =
      from_entry q n (entry_at s.pool q) refl
      (sym (entry_at-committed s.p.ptt s.p s.frames s.pool q) ∙ held_is n (entry_at new q) listed)

  -- the frame whose entry has a page is the frame of that page
  framed_at : (x j : ℕ) → entry_at s.frames j ≡ Some (framed x) → frame_of s x ≡ Some j
  framed_at x j is = h.frames_once.found j x (framed_lists x (entry_at s.frames j) is)

  same_entry : (q r n : ℕ) → From s q n → From s r n → q ≡ r
  same_entry q r n (inl a) (inl b) =
      found-once number_key s.pool h.pool_once q r n (held_lists n (entry_at s.pool q) a.2) (held_lists n (entry_at s.pool r) b.2)
  same_entry q r n (inl a) (inr b) = let both : None ≡ Some b.0 = sym a.1 ∙ framed_at n b.0 b.1 in absurd (cc)
  same_entry q r n (inr a) (inl b) = let both : None ≡ Some a.0 = sym b.1 ∙ framed_at n a.0 a.1 in absurd (cc)
  same_entry q r n (inr a) (inr b) =
      let frames : a.0 ≡ b.0 = found-once page_key s.frames h.frames_once a.0 b.0 n
      (framed_lists n (entry_at s.frames a.0) a.1) (framed_lists n (entry_at s.frames b.0) b.1) in
      found-once number_key s.pool h.pool_once q r (s.p.pages + a.0) (held_lists (s.p.pages + a.0) (entry_at s.pool q) a.2)
      (held_lists (s.p.pages + a.0) (entry_at s.pool r) (b.2 ∙ ap (λ j. Some (held (s.p.pages + j))) (sym frames)))

  of_page : (q n : ℕ) → From s q n → n < s.p.pages
  of_page q n (inl a) = a.0
  of_page q n (inr a) = subst (λ (m : ℕ). n < m) h.frames_numbers (h.frames_once.inside a.0 n (framed_lists n (entry_at s.frames a.0) a.1))

  pub IsListing-committed : IsListing number_key new
  IsListing-committed = IsListing-once number_key new
      (λ q r n a b. same_entry q r n (from q n a) (from r n b))
      (λ q n a. let low = of_page q n (from q n a) in let many = h.pool_numbers in omega (arith, low, many))

  -- each page is where the next map had it
  page_found : (x q : ℕ) → entry_at new q ≡ Some (held x) → pool_of (committed_state s) x ≡ Some q
  page_found x q is = IsListing-committed.found q x (held_lists x (entry_at new q) is)

  pub pool_of-committed : (x : ℕ) → x < s.p.pages → pool_of (committed_state s) x ≡ next_page s x
  pool_of-committed x l = by_frame (frame_of s x) refl where
    by_frame : (o : Option ℕ) → frame_of s x ≡ o → pool_of (committed_state s) x ≡ next_page s x
    by_frame None e =
        let place = some_of (pool_of s x) (h.mapped x l) in
        let was : entry_at s.pool place.0 ≡ Some (held x)
        = held_is x (entry_at s.pool place.0) (index_of-lists number_key s.pool x place.0 place.1) in
        page_found x place.0
        (entry_at-committed s.p.ptt s.p s.frames s.pool place.0 ∙ ap (committed_entry s.p.ptt s.p s.frames) was
        ∙ stays s.p.ptt s.p s.frames x l e)
        ∙ sym place.1 ∙ sym (ap (next_page_by s x) e)
    by_frame (Some j) e =
        let here : entry_at s.frames j ≡ Some (framed x) = framed_is x (entry_at s.frames j) (index_of-lists page_key s.frames x j e) in
        let place = some_of (target s j) (sym (h.claimed j) ∙ ap is_some here) in
        let was : entry_at s.pool place.0 ≡ Some (held (s.p.pages + j))
        = held_is (s.p.pages + j) (entry_at s.pool place.0) (index_of-lists number_key s.pool (s.p.pages + j) place.0 place.1) in
        let inside : j < s.p.ptt = filled-inside s j h (ap is_some here) in
        page_found x place.0 (entry_at-committed s.p.ptt s.p s.frames s.pool place.0 ∙ ap (committed_entry s.p.ptt s.p s.frames) was
        ∙ moves s.p.ptt s.p s.frames j x inside here)
        ∙ sym place.1 ∙ sym (ap (next_page_by s x) e)

  -- after a commit no frame has a page of the pool
  pub target-committed : (j : ℕ) → target (committed_state s) j ≡ None
  target-committed j = unlisted new (s.p.pages + j) (λ q listed. omega (arith, of_page q (s.p.pages + j) (from q (s.p.pages + j) listed)))
