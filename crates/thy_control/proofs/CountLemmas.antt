-- How many entries of the tables pass a test, before and after a store.
use Rattle.std.proofs.Common.{◌≡◌, ◌≢◌, ℕ, ◌+◌, ◌<◌, ◌≤◌, Bool, true, false, List, length, get_or, slice_set, is_none, refl, sym, ◌∙◌, ap, arith, Some, None}
use Rattle.std.specs.List.{count_by}
use Rattle.std.proofs.lemmas.List.Sums.{sum_by-set, get_or-le-sum_by}
use Rattle.thy_block.specs.Store.{page_of}
use Rattle.thy_table.specs.Listing.{Listing, index_of, free_count, passes, with_entry}
use Rattle.thy_table.proofs.IndexLemmas.{one_if}
use Rattle.thy_table.specs.declared.block_entry.BttEntry.{BttEntry}
use Rattle.thy_table.specs.declared.block_entry.Pending.TheVariants.{Settled, FromBuffer}
use Rattle.thy_table.specs.declared.page_entry.PttEntry.{PttEntry}
use Rattle.thy_table.specs.BlockEntry.{new_entry}
use Rattle.thy_table.specs.PageEntry.{no_page}
use Rattle.thy_table.specs.declared.cell.StoreRule.{StoreRule}
use Rattle.thy_table.specs.declared.cell.StoreRule.TheVariants.{ToFrame, PendingFirst}
use Rattle.thy_table.specs.Rules.{after_store}
use Rattle.thy_control.specs.Keys.{block_key, page_key}
use Rattle.thy_control.specs.StoredTables.{btt_with, btt_after, ptt_after}
use Rattle.thy_control.specs.State.{State, cell_of}
use Rattle.thy_control.specs.Holding.{waits, is_promoted, waiting, promoted}
use Rattle.thy_control.proofs.FindLemmas.{stands_at, free_at}
use Rattle.thy_control.proofs.StateLemmas.{IsListed, btt_with-by}

one_at_most : (t : Bool) → one_if t ≤ 1
one_at_most true = omega arith
one_at_most false = omega arith

module _ {X : Type 0} (test : X → Bool) (xs : List X) (i : ℕ) (y d : X) (inside : i < length xs) where
  -- if another element passes exactly if the old one did, the number that pass is the same
  pub count-set_same : test y ≡ test (get_or xs i d) → count_by test (slice_set xs i y) ≡ count_by test xs
  count-set_same same = omega (arith, sum_by-set (λ x. one_if (test x)) xs i y d inside, ap one_if same)

  -- if the new element fails the test and the old one passed, one element less passes
  pub count-set_less : test y ≡ false → test (get_or xs i d) ≡ true → count_by test (slice_set xs i y) + 1 ≡ count_by test xs
  count-set_less now was = omega (arith, sum_by-set (λ x. one_if (test x)) xs i y d inside, ap one_if now, ap one_if was)

  -- a change of one element makes at most one less pass
  pub count-set_most : count_by test xs ≤ count_by test (slice_set xs i y) + 1
  count-set_most = omega (arith, sum_by-set (λ x. one_if (test x)) xs i y d inside, one_at_most (test (get_or xs i d)))

-- an entry more takes one free place at most
pub free-with : (r : StoreRule) (b : ℕ) (t : Listing BttEntry) → free_count t ≤ free_count (btt_with r b t) + 1
free-with r b t = btt_with-by (λ u. free_count t ≤ free_count u + 1) r b t (omega arith)
    (λ i h f. count-set_most is_none t.entries i (Some (new_entry b)) None (free_at t i f).1)

-- a table with a new entry has as much to copy as before
pub waiting-with : (r : StoreRule) (b : ℕ) (t : Listing BttEntry) → waiting (btt_with r b t) ≡ waiting t
waiting-with r b t = btt_with-by (λ u. waiting u ≡ waiting t) r b t refl (λ i h f.
    let free = free_at t i f in
    let waits_at = passes (λ (e : BttEntry). waits e.pend) in
    count-set_same waits_at t.entries i (Some (new_entry b)) None free.1 (sym (ap waits_at free.0)))

-- another entry of a block that has one
module _ (t : State) (b : ℕ) (e : BttEntry) (listed : index_of block_key b t.btt ≡ Some (cell_of t b).i) where
  there : (get_or t.btt.entries (cell_of t b).i None ≡ Some (cell_of t b).entry)
      × ((cell_of t b).i < length t.btt.entries)
  there = stands_at block_key new_entry t.btt b (cell_of t b).i listed

  free-set : free_count (with_entry (cell_of t b).i (Some e) t.btt) ≡ free_count t.btt
  free-set =
      count-set_same is_none t.btt.entries (cell_of t b).i (Some e) None there.1
      (sym (ap is_none there.0))

  waiting-set_same : waits e.pend ≡ waits (cell_of t b).entry.pend → waiting (with_entry (cell_of t b).i (Some e) t.btt) ≡ waiting t.btt
  waiting-set_same same =
      count-set_same (passes (λ (e : BttEntry). waits e.pend)) t.btt.entries (cell_of t b).i
      (Some e) None there.1
      (same ∙ sym (ap (passes (λ (e : BttEntry). waits e.pend)) there.0))

  waiting-set_less : e.pend ≡ Settled → (cell_of t b).entry.pend ≡ FromBuffer
      → waiting (with_entry (cell_of t b).i (Some e) t.btt) + 1 ≡ waiting t.btt
  waiting-set_less now was =
      count-set_less (passes (λ (e : BttEntry). waits e.pend)) t.btt.entries (cell_of t b).i
      (Some e) None there.1
      (ap waits now) (ap (passes (λ (e : BttEntry). waits e.pend)) there.0 ∙ ap waits was)

-- another entry of a page that has one
pub promoted-set : (t : State) (b : ℕ) (e : PttEntry) → index_of page_key (page_of b) t.ptt ≡ Some (cell_of t b).j
    → is_promoted e ≡ is_promoted (cell_of t b).page
    → promoted (with_entry (cell_of t b).j (Some e) t.ptt) ≡ promoted t.ptt
promoted-set t b e listed same =
    let there = stands_at page_key no_page t.ptt (page_of b) (cell_of t b).j listed in
    count-set_same (passes is_promoted) t.ptt.entries (cell_of t b).j (Some e) None there.1
    (same ∙ sym (ap (passes is_promoted) there.0))

-- the entries of a block as a rule leaves them
pub free-cell : (r : StoreRule) (b : ℕ) (t : State) → IsListed r b t
    → free_count (btt_after r (after_store r (cell_of t b)) t.btt) ≡ free_count t.btt
free-cell ToFrame b t l = refl
free-cell r b t l = free-set t b (after_store r (cell_of t b)).entry (l.block (λ e. cc))

pub waiting-cell : (r : StoreRule) (b : ℕ) (t : State) → IsListed r b t → r ≢ PendingFirst
    → waiting (btt_after r (after_store r (cell_of t b)) t.btt) ≡ waiting t.btt
waiting-cell ToFrame b t l other = refl
waiting-cell PendingFirst b t l other = absurd (other refl)
waiting-cell r b t l other =
    waiting-set_same t b (after_store r (cell_of t b)).entry (l.block (λ e. cc)) refl

pub waiting-copied : (b : ℕ) (t : State) → IsListed PendingFirst b t → (cell_of t b).entry.pend ≡ FromBuffer
    → waiting (btt_after PendingFirst (after_store PendingFirst (cell_of t b)) t.btt) + 1 ≡ waiting t.btt
waiting-copied b t l was = waiting-set_less t b (after_store PendingFirst (cell_of t b)).entry (l.block (λ e. cc)) refl was

pub promoted-cell : (r : StoreRule) (b : ℕ) (t : State) → IsListed r b t
    → promoted (ptt_after r (after_store r (cell_of t b)) t.ptt) ≡ promoted t.ptt
promoted-cell ToFrame b t l = promoted-set t b (record (cell_of t b).page { dirty = true }) (l.page refl) refl
promoted-cell r b t l = refl

-- if no entry passes a test, none does at any place
pub none-counted : {X : Type 0} (test : X → Bool) (xs : List X) (i : ℕ) (d : X) → count_by test xs ≡ 0 → i < length xs
    → test (get_or xs i d) ≡ false
none-counted test xs i d none inside =
    by_test (test (get_or xs i d)) (omega (arith, none, get_or-le-sum_by (λ x. one_if (test x)) xs i d inside)) where
      by_test : (t : Bool) → one_if t ≤ 0 → t ≡ false
      by_test false l = refl
      by_test true l = absurd (omega (arith, l))
