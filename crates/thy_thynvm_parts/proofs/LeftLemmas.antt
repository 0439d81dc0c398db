-- How many entries there are of each kind, at the most; and what is left to copy, to write and in promotion.
use Rattle.std.proofs.Common.{is_none, ◌≡◌, ℕ, ◌-◌, ◌*◌, ◌≤◌, nat_lt, Bool, true, false, if◌then◌else◌, List, [], ◌∷◌, All, get_or, refl, ap, arith, Option, Some, None, ◌≢◌, ◌<◌, sym, ◌∙◌, subst}
use Rattle.std.specs.List.{count_by, sum_by}
use Rattle.std.proofs.lemmas.Bool.{ltb-false}
use Rattle.std.proofs.lemmas.List.Sums.{sum_by-cons, sum_by-le, count_by-le-length}
use Rattle.thy_block.specs.Device.{Device}
use Rattle.thy_block.specs.declared.parameters.Parameters.{Parameters}
use Rattle.thy_block.specs.Geometry.{memory_blocks}
use Rattle.thy_block.specs.Store.{page_of}
use Rattle.thy_table.specs.Listing.{free_count, passes, entry_at, index_of}
use Rattle.thy_table.proofs.IndexLemmas.{one_if, lists-key}
use Rattle.thy_table.specs.declared.block_entry.BttEntry.{BttEntry}
use Rattle.thy_table.specs.declared.page_entry.PttEntry.{PttEntry}
use Rattle.thy_table.specs.PageEntry.{page_blocks, no_page}
use Rattle.thy_table.specs.declared.block_entry.Pending.TheVariants.{Settled}
use Rattle.thy_table.specs.BlockEntry.{new_entry}
use Rattle.thy_control.specs.Holding.{waits, is_promoted, waiting, promoted}
use Rattle.thy_control.specs.Merges.{overlays}
use Rattle.thy_control.specs.Overlay.{is_overlaid as lies_over}
use Rattle.thy_control.specs.Promotions.{fills_left, unfilled}
use Rattle.thy_control.specs.State.{State, AreSoundTables, cell_of}
use Rattle.thy_control.specs.Keys.{block_key, page_key}
use Rattle.thy_control.specs.Stays.{Stays}
use Rattle.thy_control.specs.Copies.{needs_copy, copies_left, copied}
use Rattle.thy_control.specs.Pages.{issues_left, writes_left, issued}
use Rattle.thy_control.proofs.CopyLemmas.{listed-pending, is_pending-not, pending-not_settled}
use Rattle.thy_control.proofs.IssueLemmas.{listed-busy}
use Rattle.thy_control.proofs.FindLemmas.{found_entry, entry_for-some}
use Rattle.thy_thynvm_parts.proofs.ListedLemmas.{all_at, AreBelow, sum-most, at_least}

-- a number is 0 if the test says that it is not above 0
pub none-left : (n : ℕ) → nat_lt 0 n ≡ false → n ≡ 0
none-left n h = let few : n ≤ 0 = ltb-false 0 n h in omega (arith, few)

-- ---- at the most

module _ (s : State) (tables : AreSoundTables s) where
  pub free-few : free_count s.btt ≤ s.p.btt
  free-few = omega (arith, count_by-le-length (λ (o : Option BttEntry). is_none o) s.btt.entries, tables.btt_size)

  pub owed-few : waiting s.btt ≤ s.p.btt
  owed-few = omega (arith, count_by-le-length (passes (λ (e : BttEntry). waits e.pend)) s.btt.entries, tables.btt_size)

  pub overlays-few : overlays s ≤ s.p.btt
  overlays-few = omega (arith, count_by-le-length (passes (lies_over s.ptt)) s.btt.entries, tables.btt_size)

  pub unfilled-few : unfilled s ≤ 64 * s.p.ptt
  unfilled-few =
      let each : All (λ o. fills_left o ≤ 64) s.ptt.entries = λ k d l. by_entry (get_or s.ptt.entries k d) in
      omega (arith, sum_by-le fills_left 64 s.ptt.entries each, tables.ptt_size)
    where
      by_promoted : (x : Bool) (i : ℕ) → (if x then page_blocks - i else 0) ≤ 64
      by_promoted true i = omega arith
      by_promoted false i = omega arith

      by_entry : (o : Option PttEntry) → fills_left o ≤ 64
      by_entry None = omega arith
      by_entry (Some e) = by_promoted (is_promoted e) e.filled

-- ---- the pages in promotion

module _ {X : Type 0} (f : X → ℕ) (p : X → Bool) (none : (x : X) → p x ≡ false → f x ≡ 0) where
  one-none : (x : X) → one_if (p x) ≡ 0 → f x ≡ 0
  one-none x h = by_test (p x) refl h where
    by_test : (b : Bool) → p x ≡ b → one_if b ≡ 0 → f x ≡ 0
    by_test true e z = absurd (omega (arith, z))
    by_test false e z = none x e

  -- if nothing passes, there is no sum
  sum-none : (xs : List X) → count_by p xs ≡ 0 → sum_by f xs ≡ 0
  sum-none [] h = refl
  sum-none (x ∷ xs) h =
      let both = sum_by-cons (λ y. one_if (p y)) x xs in
      let rest : count_by p xs ≡ 0 = omega (arith, h, both) in
      let here : one_if (p x) ≡ 0 = omega (arith, h, both) in
      omega (arith, sum-none xs rest, one-none x here, sum_by-cons f x xs)

fills-none : (o : Option PttEntry) → passes is_promoted o ≡ false → fills_left o ≡ 0
fills-none None h = refl
fills-none (Some e) h = ap (λ (x : Bool). if x then page_blocks - e.filled else 0) h

-- with no page in promotion nothing is left to copy
pub unfilled-none : (s : State) → promoted s.ptt ≡ 0 → unfilled s ≡ 0
unfilled-none s none = sum-none fills_left (passes is_promoted) fills-none s.ptt.entries none

-- a copy leaves the pages as they were
pub writes-copied : (b : ℕ) (s : State) (m : Device) → writes_left (copied b s m) ≡ writes_left s
unfolding copied
writes-copied b s m = refl

-- a live entry is that of its block, and of its page's first block
module _ (t : State) (tables : AreSoundTables t) where
  pub record IsOfBlock (e : BttEntry) : Type 0 where
    pub inside : e.block < memory_blocks t.p
    pub entry : (cell_of t e.block).entry ≡ e

  pub block-listed : (i : ℕ) (e : BttEntry) → entry_at t.btt i ≡ Some e → IsOfBlock e
  block-listed i e was =
      let listed = lists-key block_key e.block (entry_at t.btt i) e was refl in
      record {
        inside = omega (arith, tables.btt_once.inside i e.block listed, tables.btt_numbers);
        entry = entry_for-some block_key new_entry t.btt e.block i e (tables.btt_once.found i e.block listed) was;
      }

  pub record IsOfPage (e : PttEntry) : Type 0 where
    pub inside : 64 * e.page < memory_blocks t.p
    pub page : (cell_of t (64 * e.page)).page ≡ e

  pub page-listed : (j : ℕ) (e : PttEntry) → entry_at t.ptt j ≡ Some e → IsOfPage e
  page-listed j e was =
      let listed = lists-key page_key e.page (entry_at t.ptt j) e was refl in
      let inside = tables.ptt_once.inside j e.page listed in
      let of_page : page_of (64 * e.page) ≡ e.page = omega arith in
      let found : index_of page_key (page_of (64 * e.page)) t.ptt ≡ Some j =
      ap (λ (n : ℕ). index_of page_key n t.ptt) of_page ∙ tables.ptt_once.found j e.page listed in
      record {
        inside = omega (arith, inside, tables.ptt_numbers);
        page = entry_for-some page_key no_page t.ptt (page_of (64 * e.page)) j e found was;
      }

-- entries list blocks and pages of memory
blocks-below : (s : State) (p : Parameters) → s.p ≡ p → AreSoundTables s → AreBelow block_key (memory_blocks p) s.btt.entries
blocks-below s p same t i e was =
    let inside = t.btt_once.inside i e.block (lists-key block_key e.block (entry_at s.btt i) e was refl) in
    omega (arith, inside, t.btt_numbers, ap memory_blocks same)

pages-below : (s : State) (p : Parameters) → s.p ≡ p → AreSoundTables s → AreBelow page_key p.pages s.ptt.entries
pages-below s p same t j e was =
    let inside = t.ptt_once.inside j e.page (lists-key page_key e.page (entry_at s.ptt j) e was refl) in
    omega (arith, inside, t.ptt_numbers, ap (λ (q : Parameters). q.pages) same)

-- no copy and no page block is left that was not
module _ (s : State) (m : Device) (t : State) (n : Device) (old : AreSoundTables s) (new : AreSoundTables t) (stays : Stays s m t n) where
  before : (b : ℕ) → b < memory_blocks t.p → b < memory_blocks s.p
  before b l = subst (λ (q : Parameters). b < memory_blocks q) stays.same_p l

  abbrev copy_weight : Option BttEntry → ℕ
  copy_weight o = one_if (passes needs_copy o)

  -- a block that is pending was so
  was-pending : (b : ℕ) → b < memory_blocks s.p → (cell_of t b).entry.pend ≢ Settled → (cell_of s b).entry.pend ≢ Settled
  was-pending b l now same = now ((stays.cells b l).settled same)

  pending-counts : (b : ℕ) → (cell_of s b).entry.pend ≢ Settled → 1 ≤ all_at block_key copy_weight refl s.btt.entries b
  pending-counts b pending =
      let there = found_entry block_key new_entry s.btt b (cell_of s b).i (listed-pending b s pending) in
      let is : (cell_of s b).entry ≡ there.0 =
      entry_for-some block_key new_entry s.btt b (cell_of s b).i there.0 (listed-pending b s pending) there.1 in
      let counts : copy_weight (Some there.0) ≡ 1
      = ap one_if (ap needs_copy (sym is) ∙ is_pending-not (cell_of s b).entry.pend pending) in
      omega (
        arith,
        counts,
        at_least block_key copy_weight refl s.btt.entries (cell_of s b).i there.0 there.3 there.1,
        ap (all_at block_key copy_weight refl s.btt.entries) there.2,
      )

  copy-was : (i : ℕ) (e : BttEntry) → entry_at t.btt i ≡ Some e
      → copy_weight (Some e) ≤ all_at block_key copy_weight refl s.btt.entries e.block
  copy-was i e was = by_test (needs_copy e) refl where
    by_test : (x : Bool) → needs_copy e ≡ x → copy_weight (Some e) ≤ all_at block_key copy_weight refl s.btt.entries e.block
    by_test false h = omega (arith, ap one_if h)
    by_test true h =
        let of_block : IsOfBlock t new e = block-listed t new i e was in
        let now : (cell_of t e.block).entry.pend ≢ Settled
        = pending-not_settled (cell_of t e.block).entry.pend (ap needs_copy of_block.entry ∙ h) in
        let counts : 1 ≤ all_at block_key copy_weight refl s.btt.entries e.block
        = pending-counts e.block (was-pending e.block (before e.block of_block.inside) now) in
        omega (arith, ap one_if h, counts)

  pub copies-most : copies_left t ≤ copies_left s
  copies-most = sum-most block_key copy_weight refl s.btt t.btt new.btt_once (memory_blocks s.p)
      (blocks-below s s.p refl old) (blocks-below t s.p stays.same_p new) copy-was

  -- the blocks of a busy page that are still to be written are counted at its number
  page-counts : (b : ℕ) → (cell_of s b).page.busy ≡ true
      → page_blocks - (cell_of s b).page.issued ≤ all_at page_key issues_left refl s.ptt.entries (page_of b)
  page-counts b busy =
      let there = found_entry page_key no_page s.ptt (page_of b) (cell_of s b).j (listed-busy b s busy) in
      let is : (cell_of s b).page ≡ there.0 =
      entry_for-some page_key no_page s.ptt (page_of b) (cell_of s b).j there.0 (listed-busy b s busy) there.1 in
      let counts : issues_left (Some there.0) ≡ page_blocks - (cell_of s b).page.issued
      = ap (λ (e : PttEntry). issues_left (Some e)) (sym is) ∙ ap (λ (x : Bool). if x then page_blocks - (cell_of s b).page.issued else 0) busy in
      omega (
        arith,
        counts,
        at_least page_key issues_left refl s.ptt.entries (cell_of s b).j there.0 there.3 there.1,
        ap (all_at page_key issues_left refl s.ptt.entries) there.2,
      )

  page-was : (j : ℕ) (e : PttEntry) → entry_at t.ptt j ≡ Some e
      → issues_left (Some e) ≤ all_at page_key issues_left refl s.ptt.entries e.page
  page-was j e was = by_test e.busy refl where
    by_test : (x : Bool) → e.busy ≡ x → issues_left (Some e) ≤ all_at page_key issues_left refl s.ptt.entries e.page
    by_test false h = omega (arith, ap (λ (x : Bool). if x then page_blocks - e.issued else 0) h)
    by_test true h =
        let of_page : IsOfPage t new e = page-listed t new j e was in
        let b : ℕ = 64 * e.page in
        let cell = stays.cells b (before b of_page.inside) in
        let busy : (cell_of s b).page.busy ≡ true = cell.busy_before (ap (λ (x : PttEntry). x.busy) of_page.page ∙ h) in
        let number : page_of b ≡ e.page = omega arith in
        omega (
          arith,
          ap (λ (x : Bool). if x then page_blocks - e.issued else 0) h,
          cell.issued,
          ap (λ (x : PttEntry). x.issued) of_page.page,
          page-counts b busy,
          ap (all_at page_key issues_left refl s.ptt.entries) number,
        )

  pub writes-most : writes_left t ≤ writes_left s
  writes-most = sum-most page_key issues_left refl s.ptt t.ptt new.ptt_once s.p.pages
      (pages-below s s.p refl old) (pages-below t s.p stays.same_p new) page-was

-- ---- how many there are at most

pub copies-few : (s : State) → AreSoundTables s → copies_left s ≤ s.p.btt
copies-few s t = omega (arith, count_by-le-length (passes needs_copy) s.btt.entries, t.btt_size)

pub writes-few : (s : State) → AreSoundTables s → writes_left s ≤ 64 * s.p.ptt
writes-few s t =
    let each : All (λ o. issues_left o ≤ 64) s.ptt.entries = λ k d l. by_entry (get_or s.ptt.entries k d) in
    omega (arith, sum_by-le issues_left 64 s.ptt.entries each, t.ptt_size)
  where
    by_busy : (busy : Bool) (i : ℕ) → (if busy then page_blocks - i else 0) ≤ 64
    by_busy true i = omega arith
    by_busy false i = omega arith

    by_entry : (o : Option PttEntry) → issues_left o ≤ 64
    by_entry None = omega arith
    by_entry (Some e) = by_busy e.busy e.issued
