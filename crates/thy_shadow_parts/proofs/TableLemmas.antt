-- The maps of the committed checkpoint and of the next one are maps that a checkpoint may have.
use Rattle.std.proofs.Common.{◌≡◌, ℕ, ◌+◌, ◌*◌, ◌<◌, Bool, true, false, nat_lt, if◌then◌else◌, length, Option, Some, None, is_some, refl, sym, ◌∙◌, ap, subst, arith, ◌-◌, inl, inr}
use Rattle.std.proofs.lemmas.Bool.{lt-ltb, ltb-true, cases_lt}
use Rattle.std.proofs.lemmas.List.{ext_get_or}
use Rattle.std.proofs.lemmas.List.FromFn.{length-map-range_with_len, get_or-map-range_with_len}
use Rattle.thy_block.specs.declared.parameters.Parameters.{Parameters}
use Rattle.thy_table.specs.Listing.{entry_at}
use Rattle.thy_table.proofs.IndexLemmas.{lists-inside, lists-key}
use Rattle.thy_table.proofs.ListingLaws.{index_of-lists}
use Rattle.thy_layout.specs.Entries.{Lists, entry_at as listed_at}
use Rattle.thy_layout.proofs.EntryLemmas.{Lists-inside}
use Rattle.thy_images.specs.ShadowPlaces.{map_blocks, pool_pages}
use Rattle.thy_images.specs.ShadowSlots.{IsMap}
use Rattle.thy_shadow_parts.specs.Keys.{number_key, page_key, held, framed}
use Rattle.thy_shadow_parts.specs.Commit.{committed_state}
use Rattle.thy_shadow_parts.specs.State.{State, IsSoundState, frame_of, pool_of, target, next_page_by, next_page, table_by, committed_table, next_table}
use Rattle.thy_shadow_parts.proofs.CommitLemmas.{held_is, held_same, framed_is, framed_same, some_of, pool_of-committed}
use Rattle.thy_shadow_parts.specs.Guarded.{IsUsedBelow, ByMap, ByFrame}

-- ---- a map by its pages

-- each page of memory has a page of the pool, and no two have one
pub record AreMapped (p : Parameters) (of : ℕ → Option ℕ) : Type 0 where
  pub there : (x : ℕ) → x < p.pages → is_some (of x) ≡ true
  pub inside : (x q : ℕ) → x < p.pages → of x ≡ Some q → q < pool_pages p
  pub apart : (x y q : ℕ) → x < p.pages → y < p.pages → of x ≡ Some q → of y ≡ Some q → x ≡ y

module _ (p : Parameters) (of : ℕ → Option ℕ) where
  abbrev entry : ℕ → Option ℕ
  entry x = if nat_lt x p.pages then of x else None

  pub length-table_by : length (table_by p of) ≡ 8 * map_blocks p
  length-table_by = length-map-range_with_len entry 0 (8 * map_blocks p)

  pub listed_at-table_by : (x : ℕ) → x < 8 * map_blocks p → listed_at (table_by p of) x ≡ entry x
  listed_at-table_by x l = get_or-map-range_with_len entry 0 (8 * map_blocks p) x x None l (omega arith)

  pub entry_page : (x : ℕ) → x < p.pages → entry x ≡ of x
  entry_page x l = ap (λ b. if b then of x else None) (lt-ltb x p.pages l)

  entry_some : (x q : ℕ) (low : Bool) → nat_lt x p.pages ≡ low → (if low then of x else None) ≡ Some q → (x < p.pages) × (of x ≡ Some q)
  entry_some x q true l is = (ltb-true x p.pages l, is)
  entry_some x q false l is = cc

  listed : (x q : ℕ) → Lists (table_by p of) x q → (x < p.pages) × (of x ≡ Some q)
  listed x q l =
      let inside : x < 8 * map_blocks p = subst (λ (n : ℕ). x < n) length-table_by (Lists-inside (table_by p of) x q l) in
      entry_some x q (nat_lt x p.pages) refl (sym (listed_at-table_by x inside) ∙ l.is)

  pub IsMap-table_by : AreMapped p of → IsMap p (table_by p of)
  IsMap-table_by h = record {
    long = length-table_by;
    mapped = λ x l.
        let page = some_of (of x) (h.there x l) in
        (page.0, record { is = listed_at-table_by x (omega arith) ∙ entry_page x l ∙ page.1 });
    of_page = λ x q l. (listed x q l).0;
    in_pool = λ x q l. let is = listed x q l in h.inside x q is.0 is.1;
    once = λ x y q l m. let a = listed x q l in let b = listed y q m in h.apart x y q a.0 b.0 a.1 b.1;
  }

-- two that agree on every page of memory are one
pub table_by-same : (p : Parameters) (f g : ℕ → Option ℕ) → ((x : ℕ) → x < p.pages → f x ≡ g x) → table_by p f ≡ table_by p g
table_by-same p f g each =
    ext_get_or None (table_by p f) (table_by p g) (length-table_by p f ∙ sym (length-table_by p g))
    (λ x below.
    let l : x < 8 * map_blocks p = omega (arith, below, length-table_by p f) in
    listed_at-table_by p f x l ∙ same x (nat_lt x p.pages) refl ∙ sym (listed_at-table_by p g x l))
  where
    same : (x : ℕ) (low : Bool) → nat_lt x p.pages ≡ low → (if low then f x else None) ≡ (if low then g x else None)
    same x true l = each x (ltb-true x p.pages l)
    same x false l = refl

-- ---- the pool's

module _ (s : State) (h : IsSoundState s) where
  pool_inside : (n q : ℕ) → pool_of s n ≡ Some q → q < pool_pages s.p
  pool_inside n q e =
      subst (λ (m : ℕ). q < m) h.pool_size (lists-inside number_key s.pool.entries q n (index_of-lists number_key s.pool n q e))

  -- one page of the pool lists one number
  pub same_number : (n m q : ℕ) → pool_of s n ≡ Some q → pool_of s m ≡ Some q → n ≡ m
  same_number n m q a b =
      let here : entry_at s.pool q ≡ Some (held n) = held_is n (entry_at s.pool q) (index_of-lists number_key s.pool n q a) in
      let there : entry_at s.pool q ≡ Some (held m) = held_is m (entry_at s.pool q) (index_of-lists number_key s.pool m q b) in
      held_same n m (sym here ∙ there)

  pub IsMap-committed : IsMap s.p (committed_table s)
  IsMap-committed = IsMap-table_by s.p (pool_of s) (record {
    there = h.mapped;
    inside = λ x q l e. pool_inside x q e;
    apart = λ x y q l m a b. same_number x y q a b;
  })

  -- a page with a frame has the frame's page of the pool
  frame_page : (x j : ℕ) → frame_of s x ≡ Some j → entry_at s.frames j ≡ Some (framed x)
  frame_page x j e = framed_is x (entry_at s.frames j) (index_of-lists page_key s.frames x j e)

  pub next_there : (x : ℕ) (o : Option ℕ) → frame_of s x ≡ o → x < s.p.pages → is_some (next_page_by s x o) ≡ true
  next_there x None e l = h.mapped x l
  next_there x (Some j) e l = sym (h.claimed j) ∙ ap is_some (frame_page x j e)

  next_inside : (x q : ℕ) (o : Option ℕ) → next_page_by s x o ≡ Some q → q < pool_pages s.p
  next_inside x q None e = pool_inside x q e
  next_inside x q (Some j) e = pool_inside (s.p.pages + j) q e

  next_apart : (x y q : ℕ) (o u : Option ℕ) → frame_of s x ≡ o → frame_of s y ≡ u → x < s.p.pages → y < s.p.pages
      → next_page_by s x o ≡ Some q → next_page_by s y u ≡ Some q → x ≡ y
  next_apart x y q None None e f l m a b = same_number x y q a b
  next_apart x y q None (Some j) e f l m a b =
      let same : x ≡ s.p.pages + j = same_number x (s.p.pages + j) q a b in absurd (omega (arith, same, l))
  next_apart x y q (Some i) None e f l m a b =
      let same : s.p.pages + i ≡ y = same_number (s.p.pages + i) y q a b in absurd (omega (arith, same, m))
  next_apart x y q (Some i) (Some j) e f l m a b =
      let numbers : s.p.pages + i ≡ s.p.pages + j = same_number (s.p.pages + i) (s.p.pages + j) q a b in
      let frames : i ≡ j = omega (arith, numbers) in
      framed_same x y (sym (frame_page x i e) ∙ ap (entry_at s.frames) frames ∙ frame_page y j f)

  pub IsMap-next : IsMap s.p (next_table s)
  IsMap-next = IsMap-table_by s.p (next_page s) (record {
    there = λ x l. next_there x (frame_of s x) refl l;
    inside = λ x q l e. next_inside x q (frame_of s x) e;
    apart = λ x y q l m a b. next_apart x y q (frame_of s x) (frame_of s y) refl refl l m a b;
  })

  -- the committed map has nothing in the page of the pool that a frame goes to
  pub target_free : (j q : ℕ) → target s j ≡ Some q → (x : ℕ) → Lists (committed_table s) x q → ⊥
  target_free j q e x l =
      let is = listed s.p (pool_of s) x q l in
      omega (arith, same_number x (s.p.pages + j) q is.1 e, is.0)

  -- with a commit the next map is the committed one
  pub committed_table-committed : committed_table (committed_state s) ≡ next_table s
  committed_table-committed = table_by-same s.p (pool_of (committed_state s)) (next_page s) (pool_of-committed s h)

-- a page of the pool before the page that a frame goes to has a page of memory, or is a lower frame's
pub target_lowest : (s : State) (j q r : ℕ) → IsSoundState s → target s j ≡ Some q → r < q → IsUsedBelow s j r
target_lowest s j q r h goes l =
    let of = h.lowest j q r goes l in
    let below = of.below in
    let found : pool_of s of.held.number ≡ Some r
    = h.pool_once.found r of.held.number (lists-key number_key of.held.number (entry_at s.pool r) of.held of.here refl) in
    elim (cases_lt of.held.number s.p.pages) as (λ _. IsUsedBelow s j r) [
      | inl page ↦ ByMap of.held.number (record {
        is = listed_at-table_by s.p (pool_of s) of.held.number (omega (arith, page))
            ∙ entry_page s.p (pool_of s) of.held.number page ∙ found;
      })
      | inr frame ↦
          let number : s.p.pages + (of.held.number - s.p.pages) ≡ of.held.number = omega (arith, frame) in
          ByFrame (of.held.number - s.p.pages) (omega (arith, frame, below)) (ap (pool_of s) number ∙ found)
    ]
