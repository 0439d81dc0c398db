-- The numbers that the controller keeps, after the listings of a boot and after each step, and the places at which the searches of
-- the tables start.
use Rattle.std.proofs.Common.{◌≡◌, ℕ, ◌<◌, true, false, length, refl, sym, ◌∙◌, ap, inl, inr, arith, Option, Some, None, ◌≢◌, ◌+◌, ◌≤◌, Bool, ◌&&◌, nat_lt, unwrap_or, subst}
use Rattle.std.proofs.lemmas.Bool.{cases_lt, and_parts, cases_eq, lt-ltb, false_from_ne_true, both_ways}
use Rattle.thy_table.specs.Listing.{Listing, entry_at, passes, index_of, free_index, with_entry, next_from}
use Rattle.thy_table.specs.declared.block_entry.BttEntry.{BttEntry}
use Rattle.thy_table.specs.declared.block_entry.Working.TheVariants.{NoWork, InBuffer}
use Rattle.thy_table.specs.declared.page_entry.PttEntry.{PttEntry}
use Rattle.thy_table.specs.BlockEntry.{listed_entry, new_entry}
use Rattle.thy_table.specs.PageEntry.{listed_page, no_page, is_framed, page_blocks}
use Rattle.thy_control.specs.declared.overlay.WorkCounts.{WorkCounts}
use Rattle.thy_control.specs.Boot.{IsBooting, with_listed_block, with_listed_page}
use Rattle.thy_control.specs.Holding.{is_promoted}
use Rattle.thy_control.specs.Overlay.{is_buffered, is_overlaid, overlaid, AreWorkCounts}
use Rattle.thy_control.specs.Seal.{block_is_framed}
use Rattle.thy_control.specs.State.{State, AreSoundTables, cell_of}
use Rattle.thy_control.proofs.CountLemmas.{count-set_same, promoted-set}
use Rattle.thy_control.proofs.MarkLemmas.{counted-some, framed-cell}
use Rattle.std.proofs.lemmas.List.{get_or-set_same, get_or-set_other}
use Rattle.thy_block.specs.declared.block.Block.{Block}
use Rattle.thy_block.specs.Device.{Device}
use Rattle.thy_block.specs.Store.{page_of}
use Rattle.thy_table.proofs.FirstLemmas.{first_from-first, none-first_from, first_from-position}
use Rattle.thy_table.specs.declared.block_entry.Pending.TheVariants.{Settled}
use Rattle.thy_table.specs.declared.cell.StoreRule.{StoreRule}
use Rattle.thy_table.specs.declared.cell.StoreRule.TheVariants.{ToFrame, ToBuffer, ToNvm, PendingFirst}
use Rattle.thy_table.specs.Rules.{after_store, after_copy}
use Rattle.thy_table.specs.Checkpoint.{page_issued}
use Rattle.thy_control.specs.declared.cursors.Cursors.{Cursors}
use Rattle.thy_control.specs.Cursors.{NoneBelow, AreCursors, AreLowered, IsControl}
use Rattle.thy_control.specs.Keys.{block_key, page_key}
use Rattle.thy_control.specs.StoredTables.{btt_with, btt_after, ptt_after}
use Rattle.thy_control.specs.Rules.{with_block, rule_for, cell_before, state_after}
use Rattle.thy_control.specs.Copies.{needs_copy, copied}
use Rattle.thy_control.specs.Pages.{needs_write, issued}
use Rattle.thy_control.specs.Merges.{merged_block, overlays}
use Rattle.thy_control.specs.Promotions.{block_filled}
use Rattle.thy_control.proofs.FindLemmas.{free_at, stands_at, found_entry, entry_for-some}
use Rattle.thy_control.proofs.StateLemmas.{block-cell_of, IsListed, IsListed-with_block, btt_with-by}
use Rattle.thy_control.proofs.CopyLemmas.{listed-pending}
use Rattle.thy_control.proofs.MergeLemmas.{listed-merge, listed_page-merge, overlays-merged}
use Rattle.thy_control.proofs.IssueLemmas.{listed-busy, cell-issued}
use Rattle.thy_control.proofs.FillLemmas.{listed-fresh, is_now, overlaid-filled_at}
use Rattle.thy_block.specs.Geometry.{memory_blocks}
use Rattle.thy_table.specs.declared.cell.Cell.{Cell}
use Rattle.thy_table.specs.BetweenCheckpoints.{MergeKeeps, DirtyKeeps}
use Rattle.thy_control.proofs.PageLemmas.{count-same}

-- an entry that is listed has no work over a frame
pub none_over : (pages : Listing PttEntry) (s : State) → IsBooting s → (i : ℕ) (o : Option BttEntry) → entry_at s.btt i ≡ o
    → passes (is_overlaid pages) o ≡ true → ⊥
none_over pages s boot i None e over = cc
none_over pages s boot i (Some x) e over =
    let idle : x.work ≡ NoWork = ap (λ (y : BttEntry). y.work) (boot.blocks i x e) in
    let bare : is_buffered x.work ≡ false = ap is_buffered idle in
    let buffered : is_buffered x.work ≡ true = (and_parts (is_buffered x.work) (block_is_framed pages x.block) over).0 in
    cc

none_overlaid : (pages : Listing PttEntry) (s : State) → IsBooting s → overlaid pages s.btt ≡ 0
none_overlaid pages s boot = elim (cases_lt 0 (overlaid pages s.btt)) as (λ _. overlaid pages s.btt ≡ 0) [
  | inl some ↦
      let found = counted-some (passes (is_overlaid pages)) None s.btt.entries some in
      absurd (none_over pages s boot found.0 (entry_at s.btt found.0) refl found.2)
  | inr none ↦ omega (arith, none)
]

pub AreWorkCounts-block : (i b : ℕ) (s : State) (k : WorkCounts) → i < length s.btt.entries → entry_at s.btt i ≡ None
    → AreWorkCounts s.ptt s.btt k
    → AreWorkCounts s.ptt (with_listed_block i b s).btt k
AreWorkCounts-block i b s k l free marks =
    let same = count-set_same (passes (is_overlaid s.ptt)) s.btt.entries i (Some (listed_entry b)) None l
    (sym (ap (passes (is_overlaid s.ptt)) free)) in
    record { overlaid_is = marks.overlaid_is ∙ sym same; promoted_is = marks.promoted_is }

pub AreWorkCounts-page : (j n : ℕ) (s : State) (k : WorkCounts) → IsBooting s → j < length s.ptt.entries → entry_at s.ptt j ≡ None
    → AreWorkCounts s.ptt s.btt k
    → AreWorkCounts (with_listed_page j n s).ptt s.btt k
AreWorkCounts-page j n s k boot l free marks =
    let same = count-set_same (passes is_promoted) s.ptt.entries j (Some (listed_page n)) None l (sym (ap (passes is_promoted) free)) in
    record {
      overlaid_is = marks.overlaid_is ∙ none_overlaid s.ptt s boot ∙ sym (none_overlaid (with_listed_page j n s).ptt s boot);
      promoted_is = marks.promoted_is ∙ sym same;
    }

-- ---- the places at which the searches of the tables start: what is found from there, and that they stay right after each step

-- A search starts at such a place, and finds what one from the start would
module _ {E : Type 0} (test : E → Bool) (t : Listing E) (place : ℕ) (below : NoneBelow test place t) where
  pub next_from-place : next_from test place t ≡ next_from test 0 t
  next_from-place =
      first_from-position (passes test) None t.entries place below
      ∙ sym (first_from-position (passes test) None t.entries 0 (λ k l. absurd (omega (arith, l))))

  -- the next one starts there, or past the last if there was none
  pub NoneBelow-sought : (o : Option ℕ) (n : ℕ) → next_from test place t ≡ o → n ≡ unwrap_or o (length t.entries) → NoneBelow test n t
  NoneBelow-sought (Some i) n found is k l =
      let first = first_from-first (passes test) None t.entries place i found in
      elim (cases_lt k place) as (λ _. passes test (entry_at t k) ≡ false) [
        | inl b ↦ below k b
        | inr a ↦ first.before k a (omega (arith, l, is))
      ]
  NoneBelow-sought None n found is k l = elim (cases_lt k place) as (λ _. passes test (entry_at t k) ≡ false) [
    | inl b ↦ below k b
    | inr a ↦ none-first_from (passes test) None t.entries place found k a (omega (arith, l, is))
  ]

-- Another entry that does not pass either
module _ {E : Type 0} (test : E → Bool) (t : Listing E) (i : ℕ) (x : Option E) (inside : i < length t.entries) where
  pub NoneBelow-set : (old new : ℕ) → new ≤ old → NoneBelow test old t
      → (i < new → passes test (entry_at t i) ≡ false → passes test x ≡ false)
      → NoneBelow test new (with_entry i x t)
  NoneBelow-set old new less below at k l = elim (cases_eq k i) as (λ _. passes test (entry_at (with_entry i x t) k) ≡ false) [
    | inl e ↦
        ap (λ (n : ℕ). passes test (entry_at (with_entry i x t) n)) e
        ∙ ap (passes test) (get_or-set_same t.entries i x None inside)
        ∙ at (omega (arith, l, e)) (below i (omega (arith, l, e, less)))
    | inr ne ↦ ap (passes test) (get_or-set_other t.entries i k x None ne) ∙ below k (omega (arith, l, less))
  ]

-- what holds of a controller holds of one that is equal to it
pub control_is : {s w : State} {m : WorkCounts} {c : Cursors} → w ≡ s → IsControl w m c
    → IsControl s m c
control_is {m = m} {c = c} view h = subst (λ (t : State). IsControl t m c) view h

-- the test for overlays asks of the page table only which pages are framed
overlaid_as : (now old : Listing PttEntry) → ((b : ℕ) → block_is_framed now b ≡ block_is_framed old b) → (o : Option BttEntry)
    → passes (is_overlaid now) o ≡ passes (is_overlaid old) o
overlaid_as now old same None = refl
overlaid_as now old same (Some e) = ap (λ (f : Bool). is_buffered e.work && f) (same e.block)

-- the entries of a block
module _ (s : State) (b : ℕ) where
  block_there : index_of block_key b s.btt ≡ Some (cell_of s b).i
      → (entry_at s.btt (cell_of s b).i ≡ Some (cell_of s b).entry) × ((cell_of s b).i < length s.btt.entries)
  block_there listed = stands_at block_key new_entry s.btt b (cell_of s b).i listed

  page_there : index_of page_key (page_of b) s.ptt ≡ Some (cell_of s b).j
      → (entry_at s.ptt (cell_of s b).j ≡ Some (cell_of s b).page) × ((cell_of s b).j < length s.ptt.entries)
  page_there listed = stands_at page_key no_page s.ptt (page_of b) (cell_of s b).j listed

  -- another entry of the block, which has to be copied only if that one had to
  AreCursors-entry : (e : BttEntry) (k : Cursors) (merges : ℕ)
      → index_of block_key b s.btt ≡ Some (cell_of s b).i → merges ≤ k.merges
      → (needs_copy (cell_of s b).entry ≡ false → needs_copy e ≡ false)
      → ((cell_of s b).i < merges → is_overlaid s.ptt (cell_of s b).entry ≡ false
      → is_overlaid s.ptt e ≡ false)
      → AreCursors s.ptt s.btt k
      → AreCursors s.ptt (with_entry (cell_of s b).i (Some e) s.btt) (record k { merges = merges })
  AreCursors-entry e k merges listed less copies over h =
      let there = block_there listed in
      let was = λ (test : BttEntry → Bool). sym (ap (passes test) there.0) in
      record {
        copies = NoneBelow-set needs_copy s.btt (cell_of s b).i (Some e) there.1 k.copies k.copies
            (omega arith) h.copies
            (λ l none. copies (was needs_copy ∙ none));
        writes = h.writes;
        merges = NoneBelow-set (is_overlaid s.ptt) s.btt (cell_of s b).i (Some e) there.1 k.merges
            merges less h.merges
            (λ l none. over l (was (is_overlaid s.ptt) ∙ none));
        promotions = h.promotions;
      }

  -- another entry of its page that passes as the one there did
  page_as : (test : PttEntry → Bool) (e : PttEntry) (place : ℕ) → index_of page_key (page_of b) s.ptt ≡ Some (cell_of s b).j
      → (test (cell_of s b).page ≡ false → test e ≡ false)
      → NoneBelow test place s.ptt → NoneBelow test place (with_entry (cell_of s b).j (Some e) s.ptt)
  page_as test e place listed keeps below =
      let there = page_there listed in
      NoneBelow-set test s.ptt (cell_of s b).j (Some e) there.1 place place (omega arith) below
      (λ l was. keeps (sym (ap (passes test) there.0) ∙ was))

-- A store first gives its block an entry, which passes no test
none-with : (r : StoreRule) (test : BttEntry → Bool) (t : Listing BttEntry) (b place : ℕ) → test (new_entry b) ≡ false
    → NoneBelow test place t → NoneBelow test place (btt_with r b t)
none-with r test t b place fails below = btt_with-by (NoneBelow test place) r b t below
    (λ i h f. NoneBelow-set test t i (Some (new_entry b)) (free_at t i f).1 place place
    (omega arith) below (λ l was. fails))

pub AreCursors-with : (r : StoreRule) (b : ℕ) (s : State) (k : Cursors) → AreCursors s.ptt s.btt k → AreCursors s.ptt (btt_with r b s.btt) k
AreCursors-with r b s k h = record {
  copies = none-with r needs_copy s.btt b k.copies refl h.copies;
  writes = h.writes;
  merges = none-with r (is_overlaid s.ptt) s.btt b k.merges refl h.merges;
  promotions = h.promotions;
}

-- a store into a listed block leaves the cursors where they may be
AreCursors-cell : (r : StoreRule) (b : ℕ) (t : State) (k : Cursors) → IsListed r b t → AreCursors t.ptt t.btt k → (merges : ℕ)
    → merges ≤ k.merges
    → (r ≡ ToBuffer → is_framed (cell_of t b).page ≡ true → merges ≤ (cell_of t b).i)
    → AreCursors (ptt_after r (after_store r (cell_of t b)) t.ptt) (btt_after r (after_store r (cell_of t b)) t.btt)
    (record k { merges = merges })
AreCursors-cell ToFrame b t k l h merges less at =
    let now : Listing PttEntry = ptt_after ToFrame (after_store ToFrame (cell_of t b)) t.ptt in
    record {
      copies = h.copies;
      writes = page_as t b needs_write (record (cell_of t b).page { dirty = true }) k.writes (l.page refl) (λ was. was) h.writes;
      merges = λ n m. overlaid_as now t.ptt (λ x. framed-cell b t x l) (entry_at t.btt n) ∙ h.merges n (omega (arith, m, less));
      promotions = page_as t b is_promoted (record (cell_of t b).page { dirty = true }) k.promotions (l.page refl) (λ was. was) h.promotions;
    }
AreCursors-cell ToBuffer b t k l h merges less at =
    AreCursors-entry t b (after_store ToBuffer (cell_of t b)).entry k merges (l.block (λ e. cc))
    less (λ was. was)
    (λ before was. bare (is_framed (cell_of t b).page) refl before) h
  where
    bare : (f : Bool) → is_framed (cell_of t b).page ≡ f → (cell_of t b).i < merges
        → is_overlaid t.ptt (after_store ToBuffer (cell_of t b)).entry ≡ false
    bare true is before = absurd (omega (arith, before, at refl is))
    bare false is before = ap (block_is_framed t.ptt) (block-cell_of t b) ∙ is
AreCursors-cell ToNvm b t k l h merges less at =
    AreCursors-entry t b (after_store ToNvm (cell_of t b)).entry k merges (l.block (λ e. cc)) less
    (λ was. was) (λ before was. refl) h
AreCursors-cell PendingFirst b t k l h merges less at =
    AreCursors-entry t b (after_store PendingFirst (cell_of t b)).entry k merges (l.block (λ e. cc))
    less (λ was. refl) (λ before was. was) h

same_cursors : (k now : Cursors) → now.copies ≡ k.copies → now.writes ≡ k.writes → now.promotions ≡ k.promotions
    → record k { merges = now.merges } ≡ now
same_cursors k now copies writes promotions = grind arith

pub AreCursors-after : (b : ℕ) (block : Block) (s : State) (n : Device) (k now : Cursors) → AreCursors s.ptt s.btt k
    → (free_index s.btt ≡ None → ⊥)
    → AreLowered (rule_for b s) (cell_before b s) k now → AreCursors (state_after b block s n).ptt (state_after b block s n).btt now
unfolding state_after cell_before
AreCursors-after b block s n k now h some low =
    let r : StoreRule = rule_for b s in
    let u : State = with_block r b s in
    let listed : IsListed r b u = IsListed-with_block r b s refl some in
    subst (λ (x : Cursors). AreCursors (ptt_after r (after_store r (cell_of u b)) u.ptt) (btt_after r (after_store r (cell_of u b)) u.btt) x)
    (same_cursors k now low.copies low.writes low.promotions)
    (AreCursors-cell r b u k listed (AreCursors-with r b s k h) now.merges low.merges low.buffer)

-- A copy settles what it copied
pub AreCursors-copied : (b : ℕ) (s : State) (m : Device) (k : Cursors) → (cell_of s b).entry.pend ≢ Settled → AreCursors s.ptt s.btt k
    → AreCursors (copied b s m).ptt (copied b s m).btt k
unfolding copied
AreCursors-copied b s m k pending h =
    AreCursors-entry s b (after_copy (cell_of s b)).entry k k.merges (listed-pending b s pending)
    (omega arith) (λ was. refl) (λ l was. was) h

-- A page that was written from had to be written
write_due : (busy : Bool) (done : ℕ) → busy ≡ true → done < page_blocks → (busy && nat_lt done page_blocks) ≡ true
write_due busy done b l = ap (λ (x : Bool). x && nat_lt done page_blocks) b ∙ lt-ltb done page_blocks l

pub AreCursors-issued : (b : ℕ) (s : State) (m : Device) (k : Cursors) → (cell_of s b).page.busy ≡ true → (cell_of s b).page.issued < 64
    → AreCursors s.ptt s.btt k
    → AreCursors (issued b s m).ptt (issued b s m).btt k
unfolding issued
AreCursors-issued b s m k busy less h =
    let e : PttEntry = page_issued (cell_of s b).page in
    let listed = listed-busy b s busy in
    let framed : (n : ℕ) → block_is_framed (issued b s m).ptt n ≡ block_is_framed s.ptt n
    = λ n. cell-issued b s busy m (λ c d. is_framed d.page ≡ is_framed c.page) n (λ q. refl) (λ o. refl) in
    record {
      copies = h.copies;
      writes = page_as s b needs_write e k.writes listed
          (λ was. absurd (both_ways _ was (write_due (cell_of s b).page.busy (cell_of s b).page.issued busy less))) h.writes;
      merges = λ n l. overlaid_as (issued b s m).ptt s.ptt framed (entry_at s.btt n) ∙ h.merges n l;
      promotions = page_as s b is_promoted e k.promotions listed (λ was. was) h.promotions;
    }

-- A merge clears what it merged
pub AreCursors-merged : (b : ℕ) (s : State) (k : Cursors) → is_framed (cell_of s b).page ≡ true → (cell_of s b).entry.work ≡ InBuffer
    → ((n : ℕ) → block_is_framed (merged_block b s).ptt n ≡ block_is_framed s.ptt n) → AreCursors s.ptt s.btt k
    → AreCursors (merged_block b s).ptt (merged_block b s).btt k
unfolding merged_block
AreCursors-merged b s k is_page over framed h =
    let inside = (block_there s b (listed-merge b s is_page over)).1 in
    let e : PttEntry = record (cell_of s b).page { dirty = true } in
    let listed = listed_page-merge b s is_page over in
    let now : Listing PttEntry = (merged_block b s).ptt in
    record {
      copies = NoneBelow-set needs_copy s.btt (cell_of s b).i None inside k.copies k.copies (omega arith) h.copies (λ l was. refl);
      writes = page_as s b needs_write e k.writes listed (λ was. was) h.writes;
      merges = NoneBelow-set (is_overlaid now) s.btt (cell_of s b).i None inside k.merges k.merges (omega arith)
          (λ n l. overlaid_as now s.ptt framed (entry_at s.btt n) ∙ h.merges n l) (λ l was. refl);
      promotions = page_as s b is_promoted e k.promotions listed (λ was. was) h.promotions;
    }

-- A page of which one more block was copied was in promotion
pub AreCursors-filled : (b : ℕ) (s : State) (m : Device) (k : Cursors) → (cell_of s b).page.fresh ≡ true
    → is_framed (cell_of s b).page ≡ false → AreSoundTables s
    → AreCursors s.ptt s.btt k → AreCursors (block_filled b s m).ptt (block_filled b s m).btt k
unfolding block_filled
AreCursors-filled b s m k fresh bare t h =
    let e : PttEntry = record (cell_of s b).page { filled = (cell_of s b).page.filled + 1 } in
    let listed = listed-fresh b s fresh in
    record {
      copies = h.copies;
      writes = page_as s b needs_write e k.writes listed (λ was. was) h.writes;
      merges = λ n l. overlaid-filled_at b s fresh m t n ∙ h.merges n l;
      promotions = page_as s b is_promoted e k.promotions listed (λ was. absurd (both_ways _ was (is_now b s fresh bare))) h.promotions;
    }

-- What a boot lists has no work, and is whole
pub AreCursors-block : (i b : ℕ) (s : State) (k : Cursors) → i < length s.btt.entries → AreCursors s.ptt s.btt k
    → AreCursors s.ptt (with_listed_block i b s).btt k
AreCursors-block i b s k inside h = record {
  copies = NoneBelow-set needs_copy s.btt i (Some (listed_entry b)) inside k.copies k.copies (omega arith) h.copies (λ l was. refl);
  writes = h.writes;
  merges = NoneBelow-set (is_overlaid s.ptt) s.btt i (Some (listed_entry b)) inside k.merges k.merges (omega arith) h.merges (λ l was. refl);
  promotions = h.promotions;
}

pub AreCursors-page : (j n : ℕ) (s : State) (k : Cursors) → IsBooting s → j < length s.ptt.entries → AreCursors s.ptt s.btt k
    → AreCursors (with_listed_page j n s).ptt s.btt k
AreCursors-page j n s k boot inside h =
    let now : Listing PttEntry = (with_listed_page j n s).ptt in
    record {
      copies = h.copies;
      writes = NoneBelow-set needs_write s.ptt j (Some (listed_page n)) inside k.writes k.writes (omega arith) h.writes (λ l was. refl);
      merges = λ m l. false_from_ne_true (passes (is_overlaid now) (entry_at s.btt m)) (none_over now s boot m (entry_at s.btt m) refl);
      promotions = NoneBelow-set is_promoted s.ptt j (Some (listed_page n)) inside k.promotions k.promotions
          (omega arith) h.promotions (λ l was. refl);
    }

-- ---- the numbers that the controller keeps, after the steps between two checkpoints

-- if each page is framed as it was, each entry lies over a frame as it did
pub overlaid-framed : (now old : Listing PttEntry) (t : Listing BttEntry) → ((b : ℕ) → block_is_framed now b ≡ block_is_framed old b)
    → overlaid now t ≡ overlaid old t
overlaid-framed now old t same = count-same (passes (is_overlaid now)) (passes (is_overlaid old)) by_entry t.entries where
  by_entry : (o : Option BttEntry) → passes (is_overlaid now) o ≡ passes (is_overlaid old) o
  by_entry None = refl
  by_entry (Some e) = ap (λ (f : Bool). is_buffered e.work && f) (same e.block)

-- a copy changes no count of work
pub AreWorkCounts-copied : (b : ℕ) (s : State) (m : Device) (k : WorkCounts) → (cell_of s b).entry.pend ≢ Settled
    → AreWorkCounts s.ptt s.btt k
    → AreWorkCounts (copied b s m).ptt (copied b s m).btt k
unfolding copied
AreWorkCounts-copied b s m k pending marks =
    let c : Cell = cell_of s b in
    let there = found_entry block_key new_entry s.btt b c.i (listed-pending b s pending) in
    let is : c.entry ≡ there.0 = entry_for-some block_key new_entry s.btt b c.i there.0 (listed-pending b s pending) there.1 in
    let same = count-set_same (passes (is_overlaid s.ptt)) s.btt.entries c.i (Some (after_copy c).entry) None there.3
    (ap (is_overlaid s.ptt) is ∙ sym (ap (passes (is_overlaid s.ptt)) there.1)) in
    record { overlaid_is = marks.overlaid_is ∙ sym same; promoted_is = marks.promoted_is }

-- the write of a page changes no count of work
pub AreWorkCounts-issued : (b : ℕ) (s : State) (m : Device) (k : WorkCounts) → (cell_of s b).page.busy ≡ true → AreWorkCounts s.ptt s.btt k
    → AreWorkCounts (issued b s m).ptt (issued b s m).btt k
unfolding issued
AreWorkCounts-issued b s m k busy marks =
    let framed : (n : ℕ) → block_is_framed (issued b s m).ptt n ≡ block_is_framed s.ptt n
    = λ n. cell-issued b s busy m (λ c d. is_framed d.page ≡ is_framed c.page) n (λ q. refl) (λ o. refl) in
    record {
      overlaid_is = marks.overlaid_is ∙ sym (overlaid-framed (issued b s m).ptt s.ptt s.btt framed);
      promoted_is = marks.promoted_is ∙ sym (promoted-set s b (page_issued (cell_of s b).page) (listed-busy b s busy) refl);
    }

-- a merge leaves one entry less over a frame
module _ (b : ℕ) (s : State) (framed : is_framed (cell_of s b).page ≡ true) (over : (cell_of s b).entry.work ≡ InBuffer) where
  -- before a merge there was an entry over a frame
  pub overlaid-some : (k : WorkCounts) → AreSoundTables s → b < memory_blocks s.p → s.under_way ≡ false → MergeKeeps → DirtyKeeps
      → AreWorkCounts s.ptt s.btt k → 0 < k.overlaid
  overlaid-some k t l idle merge others marks =
      let fewer : overlays (merged_block b s) + 1 ≡ overlays s = overlays-merged b s framed over t l idle merge others in
      omega (arith, fewer, marks.overlaid_is)

  pub AreWorkCounts-merged : (k now : WorkCounts) → (t : AreSoundTables s) → b < memory_blocks s.p → s.under_way ≡ false → MergeKeeps
      → DirtyKeeps → AreWorkCounts s.ptt s.btt k
      → now.overlaid + 1 ≡ k.overlaid → now.promoted ≡ k.promoted → AreWorkCounts (merged_block b s).ptt (merged_block b s).btt now
  unfolding merged_block
  AreWorkCounts-merged k now t l idle merge others marks less same =
      let fewer : overlays (merged_block b s) + 1 ≡ overlays s = overlays-merged b s framed over t l idle merge others in
      record {
        overlaid_is = omega (arith, fewer, less, marks.overlaid_is);
        promoted_is = same ∙ marks.promoted_is
            ∙ sym (promoted-set s b (record (cell_of s b).page { dirty = true }) (listed_page-merge b s framed over) refl);
      }
