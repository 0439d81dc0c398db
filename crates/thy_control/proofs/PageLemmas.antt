-- The cells after the entry of one page was changed, or the entry of one block cleared.
use Rattle.std.proofs.Common.{◌≡◌, ◌≢◌, ℕ, ◌<◌, Bool, true, false, List, [], ◌∷◌, length, refl, sym, ◌∙◌, ap, subst, inl, inr, arith, Option, Some, None, unwrap_or}
use Rattle.std.specs.List.{count_by}
use Rattle.std.proofs.lemmas.Bool.{cases_eq}
use Rattle.std.proofs.lemmas.List.{get_or-set_other}
use Rattle.std.proofs.lemmas.List.Sums.{sum_by-cons}
use Rattle.thy_block.specs.Store.{page_of}
use Rattle.thy_table.specs.Listing.{Listing, IsListing, entry_at, index_of, with_entry}
use Rattle.thy_table.proofs.IndexLemmas.{one_if}
use Rattle.thy_table.proofs.ListingLaws.{index_of-cleared, index_of-cleared_other}
use Rattle.thy_table.specs.declared.block_entry.BttEntry.{BttEntry}
use Rattle.thy_table.specs.declared.page_entry.PttEntry.{PttEntry}
use Rattle.thy_table.specs.BlockEntry.{new_entry}
use Rattle.thy_table.specs.PageEntry.{no_page, is_framed}
use Rattle.thy_table.specs.declared.cell.Cell.{Cell}
use Rattle.thy_control.specs.Find.{entry_for}
use Rattle.thy_control.specs.Keys.{block_key, page_key}
use Rattle.thy_control.specs.State.{State, cell_of}
use Rattle.thy_control.proofs.FindLemmas.{found_entry, entry_for-none, at_put, entry_for-kept}
use Rattle.thy_control.proofs.StateLemmas.{page-cell_of, cell-set_page_same, cell-set_page_other}

-- two tests that say the same pass the same number of elements
pub count-same : {X : Type 0} (p q : X → Bool) → ((x : X) → p x ≡ q x) → (xs : List X) → count_by p xs ≡ count_by q xs
count-same p q same [] = refl
count-same p q same (x ∷ xs) =
    omega (arith, sum_by-cons (λ y. one_if (p y)) x xs, sum_by-cons (λ y. one_if (q y)) x xs, ap one_if (same x), count-same p q same xs)

-- one page's entry was changed: the blocks of that page
module _ (f : PttEntry → PttEntry) (of_page : (e : PttEntry) → (f e).page ≡ e.page) (t : State) (b : ℕ)
    (listed : index_of page_key (page_of b) t.ptt ≡ Some (cell_of t b).j) where
  abbrev pub page_set : State
  page_set = record t { ptt = with_entry (cell_of t b).j (Some (f (cell_of t b).page)) t.ptt }

  abbrev pub cell_set : Cell → Cell
  cell_set c = record c { page = f c.page }

  pub cell-page_same : (k : ℕ) → page_of k ≡ page_of b → cell_of page_set k ≡ cell_set (cell_of t k)
  cell-page_same k q =
      cell-set_page_same t b (f (cell_of t b).page) (of_page (cell_of t b).page ∙ page-cell_of t b) listed k q
      ∙ ap (λ (n : ℕ). record (cell_of t k) { page = f (entry_for page_key no_page n t.ptt) }) (sym q)

  pub cell-page_other : (k : ℕ) → page_of k ≢ page_of b → cell_of page_set k ≡ cell_of t k
  cell-page_other k other = cell-set_page_other t b (f (cell_of t b).page) (of_page (cell_of t b).page ∙ page-cell_of t b) listed k other

  -- what holds of the page's blocks and of the others holds of all
  pub cell-page : (P : Cell → Cell → Type 0) (k : ℕ) → (page_of k ≡ page_of b → P (cell_of t k) (cell_set (cell_of t k)))
      → (page_of k ≢ page_of b → P (cell_of t k) (cell_of t k)) → P (cell_of t k) (cell_of page_set k)
  cell-page P k here others = elim (cases_eq (page_of k) (page_of b)) as (λ _. P (cell_of t k) (cell_of page_set k)) [
    | inl q ↦ subst (λ (c : Cell). P (cell_of t k) c) (sym (cell-page_same k q)) (here q)
    | inr o ↦ subst (λ (c : Cell). P (cell_of t k) c) (sym (cell-page_other k o)) (others o)
  ]

-- blocks of one page have one entry of the page table
pub same_page : (t : State) (k b : ℕ) → page_of k ≡ page_of b → (cell_of t k).page ≡ (cell_of t b).page
same_page t k b q = ap (λ (n : ℕ). entry_for page_key no_page n t.ptt) q

-- live pages that are not framed are in promotion still
pub live-set : (t : Listing PttEntry) (i : ℕ) (x : PttEntry) → i < length t.entries → (is_framed x ≡ false → x.fresh ≡ true)
    → ((j : ℕ) (e : PttEntry) → entry_at t j ≡ Some e → is_framed e ≡ false → e.fresh ≡ true)
    → (j : ℕ) (e : PttEntry) → entry_at (with_entry i (Some x) t) j ≡ Some e → is_framed e ≡ false → e.fresh ≡ true
live-set t i x inside fresh live =
    at_put t i (λ e. is_framed e ≡ false → e.fresh ≡ true) x inside fresh live

-- the entry of one block was cleared
module _ (t : State) (once : IsListing block_key t.btt) (b : ℕ) (listed : index_of block_key b t.btt ≡ Some (cell_of t b).i) where
  abbrev pub block_cleared : State
  block_cleared = record t { btt = with_entry (cell_of t b).i None t.btt }

  there : (old : BttEntry) × (entry_at t.btt (cell_of t b).i ≡ Some old) × (old.block ≡ b) × ((cell_of t b).i < length t.btt.entries)
  there = found_entry block_key new_entry t.btt b (cell_of t b).i listed

  place-here : index_of block_key b block_cleared.btt ≡ None
  place-here = ap (λ (n : ℕ). index_of block_key n block_cleared.btt) (sym there.2)
      ∙ index_of-cleared block_key t.btt once (cell_of t b).i there.0 there.1

  place-other : (k : ℕ) → k ≢ b → index_of block_key k block_cleared.btt ≡ index_of block_key k t.btt
  place-other k other = index_of-cleared_other block_key t.btt once (cell_of t b).i there.0 k there.1 (λ e. other (e ∙ there.2))

  entry-other : (k : ℕ) → k ≢ b → entry_for block_key new_entry k block_cleared.btt ≡ entry_for block_key new_entry k t.btt
  entry-other k other =
      entry_for-kept block_key new_entry t.btt block_cleared.btt k (place-other k other)
      (λ i x was of_k. get_or-set_other t.btt.entries (cell_of t b).i i None None (λ s. (
      let both : Some x ≡ Some there.0 = sym was ∙ ap (entry_at t.btt) s ∙ there.1 in
      let one : x ≡ there.0 = cc in
      other (sym of_k ∙ ap block_key one ∙ there.2))) ∙ was)

  pub cell-cleared_same : cell_of block_cleared b ≡ record (cell_of t b) { i = 0; entry = new_entry b }
  cell-cleared_same =
      ap (λ (o : Option ℕ). record (cell_of block_cleared b) { i = unwrap_or o 0 }) place-here
      ∙ ap (λ (e : BttEntry). record (cell_of t b) { i = 0; entry = e }) (entry_for-none block_key new_entry block_cleared.btt b place-here)

  pub cell-cleared_other : (k : ℕ) → k ≢ b → cell_of block_cleared k ≡ cell_of t k
  cell-cleared_other k other =
      ap (λ (o : Option ℕ). record (cell_of block_cleared k) { i = unwrap_or o 0 }) (place-other k other)
      ∙ ap (λ (e : BttEntry). record (cell_of t k) { entry = e }) (entry-other k other)
