-- Frames are committed one after the other, each by two changes of the pool's table.
use Rattle.std.proofs.Common.{◌≡◌, ◌≢◌, ℕ, ◌+◌, ◌-◌, ◌<◌, ◌≤◌, ◌==◌, Bool, true, false, nat_lt, if◌then◌else◌, length, map, Option, Some, None, is_some, refl, sym, ◌∙◌, ap, subst, inl, inr, arith}
use Rattle.std.proofs.lemmas.Bool.{cases_Bool, cases_eq, cases_lt, lt-ltb, le-ltb, eq-eqb, ne_eqb}
use Rattle.std.proofs.lemmas.List.{length-map, length-set, get_or-map, get_or_past, ext_get_or}
use Rattle.thy_block.specs.declared.parameters.Parameters.{Parameters}
use Rattle.thy_table.specs.Listing.{Listing, IsListing, listing, entry_at, lists, index_of, with_entry}
use Rattle.thy_table.proofs.IndexLemmas.{lists-inside}
use Rattle.thy_table.proofs.ListingLaws.{entry_at-with_same, entry_at-with_other, index_of-lists, index_of-none, none-lists, found-once}
use Rattle.thy_shadow_parts.specs.declared.entry.Framed.{Framed}
use Rattle.thy_shadow_parts.specs.declared.entry.Held.{Held}
use Rattle.thy_shadow_parts.specs.Commit.{page_by, is_below, committed_entry, committed_pool, freed_entry, renamed_entry, freed, renamed, moved_by}
use Rattle.thy_shadow_parts.specs.Keys.{number_key, page_key, held, framed}
use Rattle.thy_shadow_parts.proofs.CommitLemmas.{held_lists, framed_is, framed_lists, framed_same, entry_at-committed, low, high}

-- two listings with the same entries are one
pub listing_same : (t u : Listing Held) → length t.entries ≡ length u.entries → t.numbers ≡ u.numbers
    → ((q : ℕ) → entry_at t q ≡ entry_at u q) → t ≡ u
listing_same t u long numbers each =
    ap (λ es. listing es t.numbers) (ext_get_or None t.entries u.entries long (λ q l. each q)) ∙ ap (listing u.entries) numbers

-- ---- one entry after each change

freed_unlisted : (n : ℕ) (o : Option Held) → lists number_key n (freed_entry n o) ≡ false
freed_unlisted n None = refl
freed_unlisted n (Some e) = by_test (e.number == n) refl where
  by_test : (same : Bool) → (e.number == n) ≡ same → lists number_key n (if same then None else Some e) ≡ false
  by_test true is = refl
  by_test false is = is

freed_here : (n : ℕ) (o : Option Held) → lists number_key n o ≡ true → freed_entry n o ≡ None
freed_here n None h = refl
freed_here n (Some e) h = ap (λ b. if b then None else Some e) h

freed_other : (n : ℕ) (o : Option Held) → lists number_key n o ≡ false → freed_entry n o ≡ o
freed_other n None h = refl
freed_other n (Some e) h = ap (λ b. if b then None else Some e) h

renamed_here : (n x : ℕ) (o : Option Held) → lists number_key n o ≡ true → renamed_entry n x o ≡ Some (held x)
renamed_here n x None h = cc
renamed_here n x (Some e) h = ap (λ b. if b then Some (held x) else Some e) h

renamed_other : (n x : ℕ) (o : Option Held) → lists number_key n o ≡ false → renamed_entry n x o ≡ o
renamed_other n x None h = refl
renamed_other n x (Some e) h = ap (λ b. if b then Some (held x) else Some e) h

module _ (f : Option Held → Option Held) (none : f None ≡ None) (t : Listing Held) where
  pub entry_at-by : (q : ℕ) → entry_at (listing (map f t.entries) t.numbers) q ≡ f (entry_at t q)
  entry_at-by q = elim (cases_lt q (length t.entries)) as (λ _. entry_at (listing (map f t.entries) t.numbers) q ≡ f (entry_at t q)) [
    | inl l ↦ get_or-map f t.entries q None None l
    | inr l ↦
        let past : length (map f t.entries) ≤ q = omega (arith, l, length-map t.entries f) in
        get_or_past (map f t.entries) q None past ∙ sym (ap f (get_or_past t.entries q None l) ∙ none)
  ]

pub entry_at-freed : (n : ℕ) (t : Listing Held) (q : ℕ) → entry_at (freed n t) q ≡ freed_entry n (entry_at t q)
entry_at-freed n t q = entry_at-by (freed_entry n) refl t q

pub entry_at-renamed : (n x : ℕ) (t : Listing Held) (q : ℕ) → entry_at (renamed n x t) q ≡ renamed_entry n x (entry_at t q)
entry_at-renamed n x t q = entry_at-by (renamed_entry n x) refl t q

-- ---- the table after each change

pub index_of-freed : (n : ℕ) (t : Listing Held) → index_of number_key n (freed n t) ≡ None
index_of-freed n t =
    index_of-none number_key (freed n t) n (λ q. ap (lists number_key n) (entry_at-freed n t q) ∙ freed_unlisted n (entry_at t q))

module _ (t : Listing Held) (once : IsListing number_key t) (n q : ℕ) (found : index_of number_key n t ≡ Some q) where
  here : lists number_key n (entry_at t q) ≡ true
  here = index_of-lists number_key t n q found

  inside : q < length t.entries
  inside = lists-inside number_key t.entries q n here

  not_there : (i : ℕ) → i ≢ q → lists number_key n (entry_at t i) ≡ false
  not_there i other = elim (cases_Bool (lists number_key n (entry_at t i))) as (λ _. lists number_key n (entry_at t i) ≡ false) [
    | inl there ↦ absurd (other (found-once number_key t once i q n there here))
    | inr not ↦ not
  ]

  there_by : (i : ℕ) → i ≡ q → lists number_key n (entry_at t i) ≡ true
  there_by i same = ap (λ k. lists number_key n (entry_at t k)) same ∙ here

  pub freed_found : with_entry q None t ≡ freed n t
  freed_found =
      listing_same (with_entry q None t) (freed n t) (length-set t.entries q None ∙ sym (length-map t.entries (freed_entry n))) refl
      (λ i. elim (cases_eq i q) as (λ _. entry_at (with_entry q None t) i ≡ entry_at (freed n t) i) [
        | inl same ↦ ap (entry_at (with_entry q None t)) same ∙ entry_at-with_same t q None inside
            ∙ sym (entry_at-freed n t i ∙ freed_here n (entry_at t i) (there_by i same))
        | inr other ↦ entry_at-with_other t q i None other ∙ sym (entry_at-freed n t i ∙ freed_other n (entry_at t i) (not_there i other))
      ])

  pub renamed_found : (x : ℕ) → with_entry q (Some (held x)) (with_entry q None t) ≡ renamed n x t
  renamed_found x =
      let cleared : Listing Held = with_entry q None t in
      let room : q < length cleared.entries = omega (arith, inside, length-set t.entries q None) in
      listing_same (with_entry q (Some (held x)) cleared) (renamed n x t)
      (length-set cleared.entries q (Some (held x)) ∙ length-set t.entries q None ∙ sym (length-map t.entries (renamed_entry n x))) refl
      (λ i. elim (cases_eq i q) as (λ _. entry_at (with_entry q (Some (held x)) cleared) i ≡ entry_at (renamed n x t) i) [
        | inl same ↦ ap (entry_at (with_entry q (Some (held x)) cleared)) same ∙ entry_at-with_same cleared q (Some (held x)) room
            ∙ sym (entry_at-renamed n x t i ∙ renamed_here n x (entry_at t i) (there_by i same))
        | inr other ↦ entry_at-with_other cleared q i (Some (held x)) other ∙ entry_at-with_other t q i None other
            ∙ sym (entry_at-renamed n x t i ∙ renamed_other n x (entry_at t i) (not_there i other))
      ])

-- a number that is not listed
pub freed_absent : (t : Listing Held) (n : ℕ) → index_of number_key n t ≡ None → t ≡ freed n t
freed_absent t n absent = listing_same t (freed n t) (sym (length-map t.entries (freed_entry n))) refl
    (λ i. sym (entry_at-freed n t i ∙ freed_other n (entry_at t i) (none-lists number_key t n absent i)))

pub renamed_absent : (t : Listing Held) (n x : ℕ) → index_of number_key n t ≡ None → t ≡ renamed n x t
renamed_absent t n x absent = listing_same t (renamed n x t) (sym (length-map t.entries (renamed_entry n x))) refl
    (λ i. sym (entry_at-renamed n x t i ∙ renamed_other n x (entry_at t i) (none-lists number_key t n absent i)))

-- once an entry is free, a number that was not listed is not listed
pub unlisted_cleared : (t : Listing Held) (q n : ℕ) → q < length t.entries → index_of number_key n t ≡ None
    → index_of number_key n (with_entry q None t) ≡ None
unlisted_cleared t q n inside absent = index_of-none number_key (with_entry q None t) n
    (λ i. elim (cases_eq i q) as (λ _. lists number_key n (entry_at (with_entry q None t) i) ≡ false) [
      | inl same ↦ ap (lists number_key n) (ap (entry_at (with_entry q None t)) same ∙ entry_at-with_same t q None inside)
      | inr other ↦ ap (lists number_key n) (entry_at-with_other t q i None other) ∙ none-lists number_key t n absent i
    ])

-- ---- one frame more

abbrev moved_entry : Option Framed → ℕ → Option Held → Option Held
moved_entry None n o = o
moved_entry (Some e) n o = renamed_entry n e.page (freed_entry e.page o)

entry_at-moved : (o : Option Framed) (n : ℕ) (t : Listing Held) (q : ℕ) → entry_at (moved_by o n t) q ≡ moved_entry o n (entry_at t q)
entry_at-moved None n t q = refl
entry_at-moved (Some e) n t q = entry_at-renamed n e.page (freed e.page t) q ∙ ap (renamed_entry n e.page) (entry_at-freed e.page t q)

pub length-moved : (o : Option Framed) (n : ℕ) (t : Listing Held) → length (moved_by o n t).entries ≡ length t.entries
length-moved None n t = refl
length-moved (Some e) n t = length-map (freed e.page t).entries (renamed_entry n e.page) ∙ length-map t.entries (freed_entry e.page)

pub numbers-moved : (o : Option Framed) (n : ℕ) (t : Listing Held) → (moved_by o n t).numbers ≡ t.numbers
numbers-moved None n t = refl
numbers-moved (Some e) n t = refl

-- an entry of another number stays
kept : (n x m : ℕ) → m ≢ x → m ≢ n → renamed_entry n x (freed_entry x (Some (held m))) ≡ Some (held m)
kept n x m a b =
    ap (renamed_entry n x) (freed_other x (Some (held m)) (ne_eqb m x a)) ∙ renamed_other n x (Some (held m)) (ne_eqb m n b)

lt_more : (i k : ℕ) → i ≢ k → nat_lt i (k + 1) ≡ nat_lt i k
lt_more i k other = elim (cases_lt i k) as (λ _. nat_lt i (k + 1) ≡ nat_lt i k) [
  | inl l ↦ lt-ltb i (k + 1) (omega (arith, l)) ∙ sym (lt-ltb i k l)
  | inr l ↦ le-ltb i (k + 1) (omega (arith, l, other)) ∙ sym (le-ltb i k l)
]

below_more : (k : ℕ) (o : Option ℕ) → ((i : ℕ) → o ≡ Some i → i ≢ k) → is_below (k + 1) o ≡ is_below k o
below_more k None other = refl
below_more k (Some i) other = lt_more i k (other i refl)

module _ (p : Parameters) (frames : Listing Framed) where
  -- with no frame committed all is as it was
  first : (o : Option Held) → committed_entry 0 p frames o ≡ o
  first None = refl
  first (Some e) = elim (cases_lt e.number p.pages) as (λ _. committed_entry 0 p frames (Some e) ≡ Some e) [
    | inl l ↦ low 0 p frames e.number l ∙ none_below (index_of page_key e.number frames)
    | inr l ↦
        let j : ℕ = e.number - p.pages in
        let number : e.number ≡ p.pages + j = omega (arith, l) in
        ap (λ m. committed_entry 0 p frames (Some (held m))) number ∙ high 0 p frames j
        ∙ ap (λ b. if b then Some (held (page_by (entry_at frames j))) else Some (held (p.pages + j))) (le-ltb j 0 (omega arith))
        ∙ sym (ap (λ m. Some (held m)) number)
  ] where
    none_below : (o : Option ℕ) → (if is_below 0 o then None else Some e) ≡ Some e
    none_below None = refl
    none_below (Some i) = ap (λ b. if b then None else Some e) (le-ltb i 0 (omega arith))

  pub committed_none : (pool : Listing Held) → committed_pool 0 p frames pool ≡ pool
  committed_none pool = listing_same (committed_pool 0 p frames pool) pool (length-map pool.entries (committed_entry 0 p frames)) refl
      (λ q. entry_at-committed 0 p frames pool q ∙ first (entry_at pool q))

  module _ (pool : Listing Held) (frames_once : IsListing page_key frames) (pages : frames.numbers ≡ p.pages)
      (pool_once : IsListing number_key pool)
      (claimed : (j : ℕ) → is_some (entry_at frames j) ≡ is_some (index_of number_key (p.pages + j) pool)) where
    -- the frame of a listed number is filled
    filled : (q j : ℕ) → entry_at pool q ≡ Some (held (p.pages + j)) → is_some (entry_at frames j) ≡ true
    filled q j is = claimed j ∙ ap is_some (pool_once.found q (p.pages + j) (held_lists (p.pages + j) (entry_at pool q) is))

    -- what a frame lists is a page
    framed_page : (k x : ℕ) → entry_at frames k ≡ Some (framed x) → x < p.pages
    framed_page k x is = subst (λ (n : ℕ). x < n) pages (frames_once.inside k x (framed_lists x (entry_at frames k) is))

    -- frame k is not filled
    step_none : (k : ℕ) → entry_at frames k ≡ None → (q : ℕ) (o : Option Held) → entry_at pool q ≡ o
        → committed_entry (k + 1) p frames o ≡ committed_entry k p frames o
    step_none k free q None is = refl
    step_none k free q (Some e) is =
        elim (cases_lt e.number p.pages) as (λ _. committed_entry (k + 1) p frames (Some e) ≡ committed_entry k p frames (Some e)) [
          | inl l ↦
              let other : (i : ℕ) → index_of page_key e.number frames ≡ Some i → i ≢ k = λ i at same.
              (let there : entry_at frames i ≡ Some (framed e.number) = framed_is e.number (entry_at frames i)
              (index_of-lists page_key frames e.number i at) in
              let both : None ≡ Some (framed e.number) = sym free ∙ sym (ap (entry_at frames) same) ∙ there in cc) in
              low (k + 1) p frames e.number l
              ∙ ap (λ b. if b then None else Some e) (below_more k (index_of page_key e.number frames) other)
              ∙ sym (low k p frames e.number l)
          | inr l ↦
              let j : ℕ = e.number - p.pages in
              let number : e.number ≡ p.pages + j = omega (arith, l) in
              let same : committed_entry (k + 1) p frames (Some (held (p.pages + j)))
              ≡ committed_entry k p frames (Some (held (p.pages + j))) =
              high (k + 1) p frames j
              ∙ ap (λ b. if b then Some (held (page_by (entry_at frames j))) else Some (held (p.pages + j)))
              (lt_more j k (λ e. (
              let full = filled q j (is ∙ ap (λ m. Some (held m)) number) in
              let no : true ≡ false = sym full ∙ ap (λ m. is_some (entry_at frames m)) e ∙ ap is_some free in cc
              )))
              ∙ sym (high k p frames j) in
              ap (λ m. committed_entry (k + 1) p frames (Some (held m))) number ∙ same
              ∙ sym (ap (λ m. committed_entry k p frames (Some (held m))) number)
        ]

    module _ (k x : ℕ) (full : entry_at frames k ≡ Some (framed x)) where
      abbrev step : Option Held → Option Held
      step o = renamed_entry (p.pages + k) x (freed_entry x o)

      page : x < p.pages
      page = framed_page k x full

      of_frame : index_of page_key x frames ≡ Some k
      of_frame = frames_once.found k x (framed_lists x (entry_at frames k) full)

      -- one frame more is committed: an entry of a page of memory
      step_low : (n : ℕ) → n < p.pages
          → committed_entry (k + 1) p frames (Some (held n)) ≡ step (committed_entry k p frames (Some (held n)))
      step_low n l =
          elim (cases_eq n x) as
          (λ _. committed_entry (k + 1) p frames (Some (held n)) ≡ step (committed_entry k p frames (Some (held n)))) [
            | inl same ↦
                let at : index_of page_key n frames ≡ Some k = ap (λ m. index_of page_key m frames) same ∙ of_frame in
                let now : committed_entry (k + 1) p frames (Some (held n)) ≡ None = low (k + 1) p frames n l
                ∙ ap (λ o. if is_below (k + 1) o then None else Some (held n)) at
                ∙ ap (λ b. if b then None else Some (held n)) (lt-ltb k (k + 1) (omega arith)) in
                let before : committed_entry k p frames (Some (held n)) ≡ Some (held n) = low k p frames n l
                ∙ ap (λ o. if is_below k o then None else Some (held n)) at
                ∙ ap (λ b. if b then None else Some (held n)) (le-ltb k k (omega arith)) in
                now ∙ sym (ap step before ∙ ap (renamed_entry (p.pages + k) x) (freed_here x (Some (held n)) (eq-eqb n x same)))
            | inr other ↦
                let apart : (i : ℕ) → index_of page_key n frames ≡ Some i → i ≢ k = λ i at same.
                (let there : entry_at frames i ≡ Some (framed n)
                = framed_is n (entry_at frames i) (index_of-lists page_key frames n i at) in
                let both : Some (framed x) ≡ Some (framed n) = sym full ∙ sym (ap (entry_at frames) same) ∙ there in
                other (sym (framed_same x n both))) in
                low (k + 1) p frames n l
                ∙ ap (λ b. if b then None else Some (held n)) (below_more k (index_of page_key n frames) apart)
                ∙ stays other (is_below k (index_of page_key n frames))
                ∙ sym (ap step (low k p frames n l))
          ] where
            stays : n ≢ x → (b : Bool) → (if b then None else Some (held n)) ≡ step (if b then None else Some (held n))
            stays other true = refl
            stays other false = sym (kept (p.pages + k) x n other (λ e. absurd (omega (arith, e, l))))

      -- one frame more is committed: an entry of a frame
      step_high : (q j : ℕ) → entry_at pool q ≡ Some (held (p.pages + j))
          → committed_entry (k + 1) p frames (Some (held (p.pages + j))) ≡ step (committed_entry k p frames (Some (held (p.pages + j))))
      step_high q j is =
          elim (cases_eq j k) as
          (λ _. committed_entry (k + 1) p frames (Some (held (p.pages + j)))
          ≡ step (committed_entry k p frames (Some (held (p.pages + j))))) [
            | inl same ↦
                let now : committed_entry (k + 1) p frames (Some (held (p.pages + j))) ≡ Some (held x) = high (k + 1) p frames j
                ∙ ap (λ b. if b then Some (held (page_by (entry_at frames j))) else Some (held (p.pages + j)))
                (lt-ltb j (k + 1) (omega (arith, same)))
                ∙ ap (λ o. Some (held (page_by o))) (ap (entry_at frames) same ∙ full) in
                let before : committed_entry k p frames (Some (held (p.pages + j))) ≡ Some (held (p.pages + j)) = high k p frames j
                ∙ ap (λ b. if b then Some (held (page_by (entry_at frames j))) else Some (held (p.pages + j)))
                (le-ltb j k (omega (arith, same))) in
                let unfreed : freed_entry x (Some (held (p.pages + j))) ≡ Some (held (p.pages + j))
                = freed_other x (Some (held (p.pages + j))) (ne_eqb (p.pages + j) x (λ e. absurd (omega (arith, e, page)))) in
                now
                ∙ sym (ap step before ∙ ap (renamed_entry (p.pages + k) x) unfreed
                ∙ renamed_here (p.pages + k) x (Some (held (p.pages + j)))
                (eq-eqb (p.pages + j) (p.pages + k) (ap (λ m. p.pages + m) same)))
            | inr other ↦
                high (k + 1) p frames j
                ∙ ap (λ b. if b then Some (held (page_by (entry_at frames j))) else Some (held (p.pages + j))) (lt_more j k other)
                ∙ stays other (entry_at frames j) refl (nat_lt j k)
                ∙ sym (ap step (high k p frames j))
          ] where
            stays : j ≢ k → (o : Option Framed) → entry_at frames j ≡ o → (b : Bool)
                → (if b then Some (held (page_by o)) else Some (held (p.pages + j)))
                ≡ step (if b then Some (held (page_by o)) else Some (held (p.pages + j)))
            stays other o at false =
                sym (kept (p.pages + k) x (p.pages + j) (λ e. absurd (omega (arith, e, page))) (λ e. other (omega (arith, e))))
            stays other None at true = let no : false ≡ true = sym (ap is_some at) ∙ filled q j is in absurd (cc)
            stays other (Some f) at true =
                let small : f.page < p.pages = framed_page j f.page at in
                let apart : f.page ≢ x = λ e. other (found-once page_key frames frames_once j k x
                (framed_lists x (entry_at frames j) (at ∙ ap (λ m. Some (framed m)) e)) (framed_lists x (entry_at frames k) full)) in
                sym (kept (p.pages + k) x f.page apart (λ e. absurd (omega (arith, e, small))))

      step_some : (q : ℕ) (o : Option Held) → entry_at pool q ≡ o → committed_entry (k + 1) p frames o ≡ step (committed_entry k p frames o)
      step_some q None is = refl
      step_some q (Some e) is =
          elim (cases_lt e.number p.pages) as
          (λ _. committed_entry (k + 1) p frames (Some e) ≡ step (committed_entry k p frames (Some e))) [
            | inl l ↦ step_low e.number l
            | inr l ↦
                let j : ℕ = e.number - p.pages in
                let number : e.number ≡ p.pages + j = omega (arith, l) in
                ap (λ m. committed_entry (k + 1) p frames (Some (held m))) number
                ∙ step_high q j (is ∙ ap (λ m. Some (held m)) number)
                ∙ sym (ap (λ m. step (committed_entry k p frames (Some (held m)))) number)
          ]

    step_by : (k : ℕ) (f : Option Framed) → entry_at frames k ≡ f → (q : ℕ)
        → committed_entry (k + 1) p frames (entry_at pool q) ≡ moved_entry f (p.pages + k) (committed_entry k p frames (entry_at pool q))
    step_by k None is q = step_none k is q (entry_at pool q) refl
    step_by k (Some f) is q = step_some k f.page is q (entry_at pool q) refl

    pub committed_step : (k : ℕ)
        → moved_by (entry_at frames k) (p.pages + k) (committed_pool k p frames pool) ≡ committed_pool (k + 1) p frames pool
    committed_step k =
        let now : Listing Held = committed_pool k p frames pool in
        listing_same (moved_by (entry_at frames k) (p.pages + k) now) (committed_pool (k + 1) p frames pool)
        (length-moved (entry_at frames k) (p.pages + k) now ∙ length-map pool.entries (committed_entry k p frames)
        ∙ sym (length-map pool.entries (committed_entry (k + 1) p frames)))
        (numbers-moved (entry_at frames k) (p.pages + k) now)
        (λ q. entry_at-moved (entry_at frames k) (p.pages + k) now q
        ∙ ap (moved_entry (entry_at frames k) (p.pages + k)) (entry_at-committed k p frames pool q)
        ∙ sym (entry_at-committed (k + 1) p frames pool q ∙ step_by k (entry_at frames k) refl q))
