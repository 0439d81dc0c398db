-- How many entries have work over a frame, and how many pages are in promotion: before and after a store.
use Rattle.std.proofs.Common.{◌≡◌, ℕ, ◌+◌, ◌*◌, ◌<◌, ◌≤◌, Bool, true, false, ◌&&◌, not, if◌then◌else◌, List, [], ◌∷◌, length, get_or, refl, sym, ◌∙◌, ap, inl, inr, arith, suc, Option, Some, None}
use Rattle.std.specs.List.{count_by}
use Rattle.std.proofs.lemmas.Bool.{cases_Bool, cases_eq, and_parts}
use Rattle.std.proofs.lemmas.List.Sums.{sum_by-set, sum_by-cons, count_by-le-length}
use Rattle.thy_block.specs.declared.block.Block.{Block}
use Rattle.thy_block.specs.declared.parameters.Parameters.{Parameters}
use Rattle.thy_block.specs.Device.{Device}
use Rattle.thy_block.specs.Geometry.{IsInRange, memory_blocks}
use Rattle.thy_block.specs.Store.{page_of}
use Rattle.thy_table.specs.Listing.{Listing, entry_at, index_of, free_index, passes, with_entry, empty_table}
use Rattle.thy_table.proofs.IndexLemmas.{one_if, lists-key}
use Rattle.thy_table.specs.declared.block_entry.BttEntry.{BttEntry}
use Rattle.thy_table.specs.declared.block_entry.Working.{Working}
use Rattle.thy_table.specs.declared.block_entry.Working.TheVariants.{NoWork, InNvm, InBuffer}
use Rattle.thy_table.specs.declared.page_entry.PttEntry.{PttEntry}
use Rattle.thy_table.specs.BlockEntry.{new_entry}
use Rattle.thy_table.specs.PageEntry.{no_page, is_framed}
use Rattle.thy_table.specs.declared.cell.Cell.{Cell}
use Rattle.thy_table.specs.declared.cell.StoreRule.{StoreRule}
use Rattle.thy_table.specs.declared.cell.StoreRule.TheVariants.{ToFrame, ToBuffer, ToNvm, PendingFirst}
use Rattle.thy_table.specs.Rules.{store_rule, after_store}
use Rattle.thy_control.specs.declared.overlay.WorkCounts.{WorkCounts}
use Rattle.thy_control.specs.Keys.{block_key, page_key}
use Rattle.thy_control.specs.StoredTables.{btt_with, btt_after, ptt_after}
use Rattle.thy_control.specs.State.{State, AreSoundTables, cell_of}
use Rattle.thy_control.specs.Rules.{IsWholeState, with_block, rule_for, cell_before, state_after}
use Rattle.thy_control.specs.Holding.{is_promoted, promoted}
use Rattle.thy_control.specs.Seal.{block_is_framed, IsBareState}
use Rattle.thy_control.specs.Overlay.{is_buffered, is_overlaid, overlaid, covers, AreWorkCounts, IsOverlaid, IsPromoting}
use Rattle.thy_control.proofs.FindLemmas.{found_entry, entry_for-some, entry_for-none, stands_at, free_at}
use Rattle.thy_control.proofs.StateLemmas.{block-cell_of, IsListed, IsListed-with_block, cell-with_cell_same, cell-with_cell_other, rule-with_block, btt_with-by}
use Rattle.thy_control.proofs.CountLemmas.{count-set_same, promoted-cell, none-counted}
use Rattle.thy_control.proofs.HoldingLemmas.{none_passes}
use Rattle.thy_control.proofs.StoreLemmas.{whole_page}
use Rattle.thy_control.proofs.PageLemmas.{count-same}

-- if some element passes, there is one
pub counted-some : {X : Type 0} (test : X → Bool) (d : X) (xs : List X) → 0 < count_by test xs
    → (i : ℕ) × (i < length xs) × (test (get_or xs i d) ≡ true)
counted-some test d [] l = absurd (omega (arith, l))
counted-some {X} test d (x ∷ xs) l = elim (cases_Bool (test x)) as (λ _. (i : ℕ) × (i < length (x ∷ xs)) × (test (get_or (x ∷ xs) i d) ≡ true)) [
  | inl t ↦ (0, omega arith, t)
  | inr f ↦
      let rest = counted-some test d xs (omega (arith, l, sum_by-cons (λ y. one_if (test y)) x xs, ap one_if f)) in
      (suc rest.0, omega (arith, rest.1), rest.2)
]

-- an entry more has no work
pub overlaid-with : (r : StoreRule) (b : ℕ) (pages : Listing PttEntry) (t : Listing BttEntry)
    → overlaid pages (btt_with r b t) ≡ overlaid pages t
overlaid-with r b pages t =
    btt_with-by (λ u. overlaid pages u ≡ overlaid pages t) r b t refl (λ i h f.
    let free = free_at t i f in
    count-set_same (passes (is_overlaid pages)) t.entries i (Some (new_entry b)) None free.1
    (sym (ap (passes (is_overlaid pages)) free.0)))

-- another entry of a block that has one
module _ (t : State) (b : ℕ) (e : BttEntry) (of_block : e.block ≡ b) (listed : index_of block_key b t.btt ≡ Some (cell_of t b).i) where
  there : (entry_at t.btt (cell_of t b).i ≡ Some (cell_of t b).entry)
      × ((cell_of t b).i < length t.btt.entries)
  there = stands_at block_key new_entry t.btt b (cell_of t b).i listed

  -- whether an entry of the block lies over the frame of its page
  test_of : (x : BttEntry) → x.block ≡ b → passes (is_overlaid t.ptt) (Some x) ≡ (is_buffered x.work && is_framed (cell_of t b).page)
  test_of x same = ap (λ (n : ℕ). is_buffered x.work && block_is_framed t.ptt n) same

  overlaid-set : overlaid t.ptt (with_entry (cell_of t b).i (Some e) t.btt)
      + one_if (is_buffered (cell_of t b).entry.work && is_framed (cell_of t b).page)
      ≡ overlaid t.ptt t.btt + one_if (is_buffered e.work && is_framed (cell_of t b).page)
  overlaid-set = omega (
    arith,
    sum_by-set (λ (x : Option BttEntry). one_if (passes (is_overlaid t.ptt) x)) t.btt.entries
        (cell_of t b).i (Some e) None there.1,
    ap (λ (o : Option BttEntry). one_if (passes (is_overlaid t.ptt) o)) there.0,
    ap one_if (test_of (cell_of t b).entry (block-cell_of t b)),
    ap one_if (test_of e of_block),
  )

-- a frame that was stored to is a frame still
pub framed-cell : (b : ℕ) (t : State) (m : ℕ) → IsListed ToFrame b t
    → block_is_framed (ptt_after ToFrame (after_store ToFrame (cell_of t b)) t.ptt) m ≡ block_is_framed t.ptt m
framed-cell b t m l = elim (cases_eq m b)
    as (λ _. block_is_framed (ptt_after ToFrame (after_store ToFrame (cell_of t b)) t.ptt) m ≡ block_is_framed t.ptt m) [
      | inl e ↦
          ap (λ (k : ℕ). block_is_framed (ptt_after ToFrame (after_store ToFrame (cell_of t b)) t.ptt) k) e
          ∙ ap (λ (c : Cell). is_framed c.page) (cell-with_cell_same ToFrame b t l)
          ∙ sym (ap (λ (k : ℕ). block_is_framed t.ptt k) e)
      | inr o ↦ elim (cell-with_cell_other ToFrame b t m l o)
          as (λ _. block_is_framed (ptt_after ToFrame (after_store ToFrame (cell_of t b)) t.ptt) m ≡ block_is_framed t.ptt m) [
            | inl same ↦ ap (λ (c : Cell). is_framed c.page) same
            | inr dirty ↦ ap (λ (c : Cell). is_framed c.page) dirty.1
          ]
    ]

-- by the rule: only a store into a buffer over a frame adds one
one_more : (work : Working) (framed : Bool) (new old : ℕ) → new + one_if (is_buffered work && framed) ≡ old + one_if framed
    → new ≡ old + (if framed && not (is_buffered work) then 1 else 0)
one_more InBuffer true new old h = omega (arith, h)
one_more InBuffer false new old h = omega (arith, h)
one_more work true new old h = omega (arith, h)
one_more work false new old h = omega (arith, h)

no_more : (work : Working) (framed : Bool) (new old : ℕ) → framed ≡ false → new + one_if (is_buffered work && framed) ≡ old + 0
    → new ≡ old + 0
no_more InBuffer true new old f h = cc
no_more work framed new old f h = omega (arith, h)

nvm_is_bare : (c : Cell) → store_rule c ≡ ToNvm → is_framed c.page ≡ false
nvm_is_bare c e = grind arith

pub overlaid-cell : (r : StoreRule) (b : ℕ) (t : State) → store_rule (cell_of t b) ≡ r → IsListed r b t
    → overlaid (ptt_after r (after_store r (cell_of t b)) t.ptt) (btt_after r (after_store r (cell_of t b)) t.btt)
    ≡ overlaid t.ptt t.btt + covers r (cell_of t b)
overlaid-cell ToFrame b t is l =
    let now : Listing PttEntry = ptt_after ToFrame (after_store ToFrame (cell_of t b)) t.ptt in
    let same : overlaid now t.btt ≡ overlaid t.ptt t.btt
    = count-same (passes (is_overlaid now)) (passes (is_overlaid t.ptt)) (by_entry now (λ m. framed-cell b t m l)) t.btt.entries in
    omega (arith, same)
  where
    by_entry : (now : Listing PttEntry) → ((m : ℕ) → block_is_framed now m ≡ block_is_framed t.ptt m) → (o : Option BttEntry)
        → passes (is_overlaid now) o ≡ passes (is_overlaid t.ptt) o
    by_entry now h None = refl
    by_entry now h (Some e) = ap (λ (f : Bool). is_buffered e.work && f) (h e.block)
overlaid-cell ToBuffer b t is l =
    one_more (cell_of t b).entry.work (is_framed (cell_of t b).page) _ _
    (overlaid-set t b (after_store ToBuffer (cell_of t b)).entry (block-cell_of t b) (l.block (λ e. cc)))
overlaid-cell ToNvm b t is l =
    no_more (cell_of t b).entry.work (is_framed (cell_of t b).page) _ _ (nvm_is_bare (cell_of t b) is)
    (overlaid-set t b (after_store ToNvm (cell_of t b)).entry (block-cell_of t b) (l.block (λ e. cc)))
overlaid-cell PendingFirst b t is l =
    let set = overlaid-set t b (after_store PendingFirst (cell_of t b)).entry (block-cell_of t b) (l.block (λ e. cc)) in
    omega (arith, set)

-- the counts of work are right after a store
pub AreWorkCounts-after : (b : ℕ) (block : Block) (s : State) (n : Device) (m now : WorkCounts) → AreWorkCounts s.ptt s.btt m
    → (free_index s.btt ≡ None → ⊥)
    → now.overlaid ≡ m.overlaid + covers (rule_for b s) (cell_before b s) → now.promoted ≡ m.promoted
    → AreWorkCounts (state_after b block s n).ptt (state_after b block s n).btt now
unfolding state_after cell_before
AreWorkCounts-after b block s n m now h some over promoting =
    let r : StoreRule = rule_for b s in
    let u : State = with_block r b s in
    let listed : IsListed r b u = IsListed-with_block r b s refl some in
    let set = overlaid-cell r b u (rule-with_block r b s) listed in
    record {
      overlaid_is = omega (arith, over, h.overlaid_is, overlaid-with r b s.ptt s.btt, set);
      promoted_is = promoting ∙ h.promoted_is ∙ sym (promoted-cell r b u listed);
    }

-- if none is counted, no block has work over its frame
pub IsBareState-none : (s : State) → overlaid s.ptt s.btt ≡ 0 → IsBareState s
IsBareState-none s none =
    record { bare = λ b l. record { no_overlay = λ framed work. by_place b framed work (index_of block_key b s.btt) refl } } where
      by_place : (b : ℕ) → is_framed (cell_of s b).page ≡ true → (cell_of s b).entry.work ≡ InBuffer → (o : Option ℕ)
          → index_of block_key b s.btt ≡ o → ⊥
      by_place b framed work None h =
          let idle : NoWork ≡ InBuffer = sym (ap (λ (e : BttEntry). e.work) (entry_for-none block_key new_entry s.btt b h)) ∙ work in cc
      by_place b framed work (Some i) h =
          let f = found_entry block_key new_entry s.btt b i h in
          let is : (cell_of s b).entry ≡ f.0 = entry_for-some block_key new_entry s.btt b i f.0 h f.1 in
          let counted : passes (is_overlaid s.ptt) (Some f.0) ≡ false =
          sym (ap (passes (is_overlaid s.ptt)) f.1) ∙ none-counted (passes (is_overlaid s.ptt)) s.btt.entries i None none f.3 in
          let lies : passes (is_overlaid s.ptt) (Some f.0) ≡ true
          = ap (λ (w : Working). is_buffered w && block_is_framed s.ptt f.0.block) (ap (λ (e : BttEntry). e.work) (sym is) ∙ work)
          ∙ ap (block_is_framed s.ptt) f.2 ∙ framed in
          let both : true ≡ false = sym lies ∙ counted in cc

-- work that is held in a buffer
pub buffered : (w : Working) → is_buffered w ≡ true → w ≡ InBuffer
buffered NoWork e = cc
buffered InNvm e = cc
buffered InBuffer e = refl

-- if the count of overlaid entries is not 0, some block is overlaid
pub IsOverlaid-some : (s : State) → AreSoundTables s → 0 < overlaid s.ptt s.btt → IsOverlaid s
IsOverlaid-some s t some =
    let f = counted-some (passes (is_overlaid s.ptt)) None s.btt.entries some in
    by_entry f.0 (entry_at s.btt f.0) refl f.2
  where
    by_entry : (i : ℕ) (o : Option BttEntry) → entry_at s.btt i ≡ o → passes (is_overlaid s.ptt) o ≡ true → IsOverlaid s
    by_entry i None was test = cc
    by_entry i (Some e) was test =
        let both = and_parts (is_buffered e.work) (block_is_framed s.ptt e.block) test in
        let listed = lists-key block_key e.block (entry_at s.btt i) e was refl in
        let inside = t.btt_once.inside i e.block listed in
        let found : (cell_of s e.block).entry ≡ e = entry_for-some block_key new_entry s.btt e.block i e (t.btt_once.found i e.block listed) was in
        record {
          block = e.block;
          inside = omega (arith, inside, t.btt_numbers);
          framed = both.1;
          work = ap (λ (x : BttEntry). x.work) found ∙ buffered e.work both.0;
        }

-- if the count of pages in promotion is 0, every page is whole
pub IsWholeState-none : (s : State) → promoted s.ptt ≡ 0 → IsWholeState s
IsWholeState-none s none = record { whole = λ b l. whole_page s b none (index_of page_key (page_of b) s.ptt) refl }

unframed_fresh : (framed fresh : Bool) → (not framed && fresh) ≡ true → (framed ≡ false) × (fresh ≡ true)
unframed_fresh true fresh e = cc
unframed_fresh false fresh e = (refl, e)

pub IsPromoting-some : (s : State) → AreSoundTables s → 0 < promoted s.ptt → IsPromoting s
IsPromoting-some s t some =
    let f = counted-some (passes is_promoted) None s.ptt.entries some in
    by_entry f.0 (entry_at s.ptt f.0) refl f.2
  where
    by_entry : (j : ℕ) (o : Option PttEntry) → entry_at s.ptt j ≡ o → passes is_promoted o ≡ true → IsPromoting s
    by_entry j None was test = cc
    by_entry j (Some e) was test =
        let both = unframed_fresh (is_framed e) e.fresh test in
        let listed = lists-key page_key e.page (entry_at s.ptt j) e was refl in
        let inside = t.ptt_once.inside j e.page listed in
        let b : ℕ = 64 * e.page in
        let of_page : page_of b ≡ e.page = omega arith in
        let found : (cell_of s b).page ≡ e = entry_for-some page_key no_page s.ptt (page_of b) j e
        (ap (λ (n : ℕ). index_of page_key n s.ptt) of_page ∙ t.ptt_once.found j e.page listed) was in
        record {
          block = b;
          inside = omega (arith, inside, t.ptt_numbers);
          unframed = ap is_framed found ∙ both.0;
          fresh = ap (λ (x : PttEntry). x.fresh) found ∙ both.1;
        }

-- the count of overlaid entries is at most the size of the block table
pub marks-small : (s : State) (m : WorkCounts) → AreSoundTables s → AreWorkCounts s.ptt s.btt m → m.overlaid ≤ s.p.btt
marks-small s m t h = omega (arith, h.overlaid_is, count_by-le-length (passes (is_overlaid s.ptt)) s.btt.entries, t.btt_size)

-- a new controller has none
abbrev pub no_work_counts : WorkCounts
no_work_counts = record { overlaid = 0; promoted = 0 }

pub AreWorkCounts-new : (p : Parameters) → AreWorkCounts (empty_table p.ptt p.pages) (empty_table p.btt (memory_blocks p)) no_work_counts
AreWorkCounts-new p = record {
  overlaid_is = sym (none_passes (is_overlaid (empty_table p.ptt p.pages)) p.btt);
  promoted_is = sym (none_passes is_promoted p.ptt);
}

-- the block table has few entries
pub btt_most : (p : Parameters) → IsInRange p → p.btt ≤ 4096
btt_most p r = r.1.1.1.1.0.0.1
