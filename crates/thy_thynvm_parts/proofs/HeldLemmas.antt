-- What copies, written blocks of pages and commits leave of the counts; and a seal that found no work frees entries.
use Rattle.std.proofs.Common.{◌≡◌, ◌≢◌, ℕ, false, List, map, refl, sym, ◌∙◌, ap, arith, Option, Some, None, option_and_then, ◌-◌, ◌*◌, ◌<◌, ◌≤◌, ◌&&◌, not, if◌then◌else◌, Bool, true, [], ◌∷◌, length, get_or, slice_set, is_none, suc}
use Rattle.std.proofs.lemmas.List.{length-map, ext_get_or}
use Rattle.std.proofs.Math.ListN.{get_or-map}
use Rattle.std.specs.List.{count_by, sum_by}
use Rattle.std.proofs.lemmas.Bool.{and_parts}
use Rattle.std.proofs.lemmas.List.Sums.{sum_by-set, sum_by-cons}
use Rattle.thy_block.specs.Device.{Device, written_to}
use Rattle.thy_block.specs.declared.block.Block.{Block}
use Rattle.thy_block.specs.Store.{page_of}
use Rattle.thy_dram.specs.Contents.{written}
use Rattle.thy_table.specs.Listing.{Listing, entry_at, mapped, passes, free_count}
use Rattle.thy_table.proofs.FirstLemmas.{none-first_from}
use Rattle.thy_table.proofs.ListingLaws.{entry_at-mapped}
use Rattle.thy_table.specs.declared.block_entry.BttEntry.{BttEntry}
use Rattle.thy_table.specs.declared.block_entry.Pending.{Pending}
use Rattle.thy_table.specs.declared.block_entry.Pending.TheVariants.{Settled}
use Rattle.thy_table.specs.declared.block_entry.Working.TheVariants.{NoWork}
use Rattle.thy_table.specs.BlockEntry.{new_entry}
use Rattle.thy_table.proofs.IndexLemmas.{one_if}
use Rattle.thy_table.specs.declared.block_entry.Version.{Version}
use Rattle.thy_table.specs.declared.block_entry.Version.TheVariants.{Out}
use Rattle.thy_table.specs.declared.block_entry.Working.{Working}
use Rattle.thy_table.specs.declared.page_entry.PttEntry.{PttEntry}
use Rattle.thy_table.specs.PageEntry.{is_framed, no_page, page_blocks}
use Rattle.thy_table.specs.Places.{in_dram}
use Rattle.thy_table.specs.Devices.{Devices}
use Rattle.thy_table.specs.Rules.{after_copy}
use Rattle.thy_table.specs.declared.cell.Cell.{Cell}
use Rattle.thy_table.specs.Cells.{seat_of, target}
use Rattle.thy_table.specs.Checkpoint.{committed_by, committed_entry, page_committed_by, committed_page, page_or_none, page_issued}
use Rattle.thy_control.specs.Keys.{block_key, page_key}
use Rattle.thy_control.specs.State.{State, cell_of, AreSoundTables}
use Rattle.thy_control.specs.Copies.{needs_copy, next_copy, copied}
use Rattle.thy_control.specs.Frees.{HasNoWork, settled}
use Rattle.thy_control.proofs.CopyLemmas.{listed-pending}
use Rattle.thy_control.proofs.FindLemmas.{found_entry, entry_for-some}
use Rattle.thy_control.proofs.StayLemmas.{map-set_same}
use Rattle.thy_control.proofs.LeftLemmas.{not_pending}
use Rattle.thy_control.specs.declared.overlay.WorkCounts.{WorkCounts}
use Rattle.thy_control.specs.Commit.{committed_state}
use Rattle.thy_control.specs.Holding.{waits, is_promoted, waiting, promoted}
use Rattle.thy_control.specs.Merges.{overlays}
use Rattle.thy_control.specs.Overlay.{is_buffered, is_overlaid, AreWorkCounts}
use Rattle.thy_control.specs.Pages.{issued}
use Rattle.thy_control.specs.Promotions.{fills_left, unfilled}
use Rattle.thy_control.specs.Seal.{block_is_framed}
use Rattle.thy_control.proofs.KeepLemmas.{placed-in_nvm}
use Rattle.thy_control.proofs.CommitLemmas.{cell-committed}
use Rattle.thy_control.proofs.CountLemmas.{count-set_same}
use Rattle.thy_control.proofs.IssueLemmas.{listed-busy, busy-framed}
use Rattle.thy_control.proofs.CursorLemmas.{AreWorkCounts-copied, AreWorkCounts-issued}
use Rattle.thy_thynvm_parts.specs.Design.{IsButCopied}
use Rattle.thy_thynvm_parts.proofs.LeftLemmas.{IsOfPage, page-listed}

pub but-copied : (b : ℕ) (s : State) (m : Device) → (cell_of s b).entry.pend ≢ Settled → IsButCopied s (copied b s m)
unfolding copied
but-copied b s m pending =
    let there = found_entry block_key new_entry s.btt b (cell_of s b).i (listed-pending b s pending) in
    let is : (cell_of s b).entry ≡ there.0 =
    entry_for-some block_key new_entry s.btt b (cell_of s b).i there.0 (listed-pending b s pending) there.1 in
    ap (λ (es : List (Option BttEntry)). record s.btt { entries = es })
    (map-set_same (option_and_then settled) s.btt.entries (cell_of s b).i (Some (after_copy (cell_of s b)).entry) None
    (ap settled is ∙ sym (ap (option_and_then settled) there.1)) there.3)

-- if only copies were made no entry has work, if none had
pub no_work-copied : (s t : State) → IsButCopied s t → HasNoWork s → HasNoWork t
no_work-copied s t same none = record { no_work = λ i e was. by_entry i e was (entry_at s.btt i) refl } where
  by_entry : (i : ℕ) (e : BttEntry) → entry_at t.btt i ≡ Some e → (o : Option BttEntry) → entry_at s.btt i ≡ o → e.work ≡ NoWork
  by_entry i e now o was = by_old o was (sym (entry_at-mapped settled s.btt i ∙ ap (option_and_then settled) was)
      ∙ ap (λ (u : Listing BttEntry). entry_at u i) (sym same) ∙ entry_at-mapped settled t.btt i ∙ ap (option_and_then settled) now)
    where
      by_old : (o : Option BttEntry) → entry_at s.btt i ≡ o → option_and_then settled o ≡ settled e → e.work ≡ NoWork
      by_old None was h = cc
      by_old (Some f) was h =
          let alike : record f { pend = Settled } ≡ record e { pend = Settled } = cc in
          ap (λ (x : BttEntry). x.work) (sym alike) ∙ none.no_work i f was

-- once all copies are made, the table is as it is with all of them made
pub settled-done : (t : State) → next_copy t ≡ None → mapped settled t.btt ≡ t.btt
settled-done t none =
    ap (λ (es : List (Option BttEntry)). record t.btt { entries = es })
    (ext_get_or None (map (option_and_then settled) t.btt.entries) t.btt.entries (length-map t.btt.entries (option_and_then settled))
    (λ i l.
    get_or-map (option_and_then settled) t.btt.entries i None
    ∙ by_entry (entry_at t.btt i)
    (none-first_from (passes needs_copy) None t.btt.entries 0 none i (omega arith) (omega (arith, l, length-map t.btt.entries (option_and_then settled))))))
  where
    by_entry : (o : Option BttEntry) → passes needs_copy o ≡ false → option_and_then settled o ≡ o
    by_entry None h = refl
    by_entry (Some e) h = ap (λ (p : Pending). Some (record e { pend = p })) (sym (not_pending e.pend h))

-- ---- counts over a rule

module _ {X Y : Type 0} (f : X → Y) (p : X → Bool) (q : Y → Bool) (d : X) where
  by_both : (a b : Bool) → (a ≡ true → b ≡ true) → one_if a ≤ one_if b
  by_both false b h = omega arith
  by_both true b h = let yes : b ≡ true = h refl in omega (arith, ap one_if yes)

  -- if what passes did so before, no more pass
  count-implied : (xs : List X) → ((i : ℕ) → i < length xs → q (f (get_or xs i d)) ≡ true → p (get_or xs i d) ≡ true)
      → count_by q (map f xs) ≤ count_by p xs
  count-implied [] h = omega arith
  count-implied (x ∷ xs) h = omega (
    arith,
    count-implied xs (λ i l. h (suc i) (omega (arith, l))),
    sum_by-cons (λ y. one_if (q y)) (f x) (map f xs),
    sum_by-cons (λ y. one_if (p y)) x xs,
    by_both (q (f x)) (p x) (h 0 (omega arith)),
  )

  -- if what passed a test still passes, no fewer pass
  count-implies : (xs : List X) → ((i : ℕ) → i < length xs → p (get_or xs i d) ≡ true → q (f (get_or xs i d)) ≡ true)
      → count_by p xs ≤ count_by q (map f xs)
  count-implies [] h = omega arith
  count-implies (x ∷ xs) h = omega (
    arith,
    count-implies xs (λ i l. h (suc i) (omega (arith, l))),
    sum_by-cons (λ y. one_if (q y)) (f x) (map f xs),
    sum_by-cons (λ y. one_if (p y)) x xs,
    by_both (p x) (q (f x)) (h 0 (omega arith)),
  )

module _ {X : Type 0} (f : X → ℕ) (g : X → X) (d : X) where
  -- if each element counts the same as before, the sum is the same
  sum-alike : (xs : List X) → ((i : ℕ) → i < length xs → f (g (get_or xs i d)) ≡ f (get_or xs i d)) → sum_by f (map g xs) ≡ sum_by f xs
  sum-alike [] h = refl
  sum-alike (x ∷ xs) h = omega (
    arith,
    sum-alike xs (λ i l. h (suc i) (omega (arith, l))),
    h 0 (omega arith),
    sum_by-cons f (g x) (map g xs),
    sum_by-cons f x xs,
  )

-- the sum of blocks left stays if an entry is replaced by one with the same number of blocks left
pub unfilled-set : (es : List (Option PttEntry)) (j : ℕ) (e f : PttEntry) → j < length es → get_or es j None ≡ Some e
    → fills_left (Some f) ≡ fills_left (Some e) → sum_by fills_left (slice_set es j (Some f)) ≡ sum_by fills_left es
unfilled-set es j e f inside was same = omega (arith, sum_by-set fills_left es j (Some f) None inside, ap fills_left was, same)

-- ---- room, copies owed, promotions and overlays

-- no fewer entries are free, no more buffers wait or lie over frames, and the same numbers of pages are being promoted
-- and of their blocks are left
pub record KeepsCounts (s t : State) : Type 0 where
  pub free : free_count s.btt ≤ free_count t.btt
  pub owed : waiting t.btt ≤ waiting s.btt
  pub promoted_same : promoted t.ptt ≡ promoted s.ptt
  pub unfilled_same : unfilled t ≡ unfilled s
  pub overlays_are : overlays t ≤ overlays s

abbrev marks_of : State → WorkCounts
marks_of s = record { overlaid = overlays s; promoted = promoted s.ptt }

are-marks : (s : State) → AreWorkCounts s.ptt s.btt (marks_of s)
are-marks s = record { overlaid_is = refl; promoted_is = refl }

pub counts-copied : (b : ℕ) (s : State) (m : Device) → (cell_of s b).entry.pend ≢ Settled → KeepsCounts s (copied b s m)
unfolding copied
counts-copied b s m pending =
    let c : Cell = cell_of s b in
    let there = found_entry block_key new_entry s.btt b c.i (listed-pending b s pending) in
    let marks : AreWorkCounts (copied b s m).ptt (copied b s m).btt (marks_of s) = AreWorkCounts-copied b s m (marks_of s) pending (are-marks s) in
    let same : free_count (copied b s m).btt ≡ free_count s.btt
    = count-set_same is_none s.btt.entries c.i (Some (after_copy c).entry) None there.3 (sym (ap is_none there.1)) in
    let fewer = sum_by-set (λ (o : Option BttEntry). one_if (passes (λ (e : BttEntry). waits e.pend) o)) s.btt.entries c.i
    (Some (after_copy c).entry) None there.3 in
    record {
      free = omega (arith, same);
      owed = omega (arith, fewer);
      promoted_same = refl;
      unfilled_same = refl;
      overlays_are = omega (arith, marks.overlaid_is);
    }

unfilled-issued : (b : ℕ) (s : State) (m : Device) → (cell_of s b).page.busy ≡ true → unfilled (issued b s m) ≡ unfilled s
unfolding issued
unfilled-issued b s m busy =
    let listed = listed-busy b s busy in
    let there = found_entry page_key no_page s.ptt (page_of b) (cell_of s b).j listed in
    let is : (cell_of s b).page ≡ there.0 = entry_for-some page_key no_page s.ptt (page_of b) (cell_of s b).j there.0 listed there.1 in
    unfilled-set s.ptt.entries (cell_of s b).j there.0 (page_issued (cell_of s b).page) there.3 there.1
    (ap (λ (e : PttEntry). fills_left (Some e)) is)

pub counts-issued : (b : ℕ) (s : State) (m : Device) → (cell_of s b).page.busy ≡ true → KeepsCounts s (issued b s m)
unfolding issued
counts-issued b s m busy =
    let marks : AreWorkCounts (issued b s m).ptt (issued b s m).btt (marks_of s) = AreWorkCounts-issued b s m (marks_of s) busy (are-marks s) in
    record {
      free = omega arith;
      owed = omega arith;
      promoted_same = sym marks.promoted_is;
      unfilled_same = unfilled-issued b s m busy;
      overlays_are = omega (arith, marks.overlaid_is);
    }

-- what a commit leaves of an entry waits as it did, and lies over a frame only if it did
committed-waits : (v : Version) (w : Working) (e : BttEntry) → passes (λ (x : BttEntry). waits x.pend) (committed_by v w e) ≡ true
    → waits e.pend ≡ true
committed-waits Out NoWork e h = cc
committed-waits v w e h = h

committed-lies : (pages : Listing PttEntry) (v : Version) (w : Working) (e : BttEntry)
    → passes (is_overlaid pages) (committed_by v w e) ≡ true → is_overlaid pages e ≡ true
committed-lies pages Out NoWork e h = cc
committed-lies pages v w e h = h

-- a page that a commit leaves is in promotion as it was
committed-promoted : (leaving : Bool) (e : PttEntry) → passes is_promoted (page_committed_by leaving e) ≡ true → is_promoted e ≡ true
committed-promoted true e h = cc
committed-promoted false e h = h

stays-promoted : (leaving : Bool) (e : PttEntry) → (leaving ≡ true → is_promoted e ≡ false) → is_promoted e ≡ true
    → passes is_promoted (page_committed_by leaving e) ≡ true
stays-promoted true e none h = let no : is_promoted e ≡ false = none refl in cc
stays-promoted false e none h = h

-- a page that a commit leaves in promotion has the same number of blocks left
fills-stay : (leaving : Bool) (e : PttEntry) → (leaving ≡ true → is_promoted e ≡ false)
    → fills_left (page_committed_by leaving e) ≡ fills_left (Some e)
fills-stay true e none = sym (ap (λ (x : Bool). if x then page_blocks - e.filled else 0) (none refl))
fills-stay false e none = refl

framed-before : (leaving : Bool) (e : PttEntry) → is_framed (page_or_none e.page (page_committed_by leaving e)) ≡ true → is_framed e ≡ true
framed-before true e h = cc
framed-before false e h = h

module _ (s : State) (tables : AreSoundTables s) where
  -- a page that leaves is framed
  leaving-framed : (j : ℕ) (e : PttEntry) → entry_at s.ptt j ≡ Some e → e.leaving ≡ true → is_promoted e ≡ false
  leaving-framed j e was leaving =
      let of_page : IsOfPage s tables e = page-listed s tables j e was in
      let sound = (tables.cells (64 * e.page) of_page.inside).of_page in
      let page : PttEntry = (cell_of s (64 * e.page)).page in
      let busy : page.busy ≡ true = sound.leaving_busy (ap (λ (x : PttEntry). x.leaving) of_page.page ∙ leaving) in
      let framed : is_framed e ≡ true = ap is_framed (sym of_page.page) ∙ busy-framed s.under_way page sound busy in
      ap (λ (x : Bool). not x && e.fresh) framed

  block-framed : (b : ℕ) → block_is_framed (committed_state s).ptt b ≡ true → block_is_framed s.ptt b ≡ true
  block-framed b h =
      framed-before (cell_of s b).page.leaving (cell_of s b).page
      (ap (λ (c : Cell). is_framed c.page) (sym (cell-committed s tables.btt_once tables.ptt_once b)) ∙ h)

  overlaid-before : (e : BttEntry) → is_overlaid (committed_state s).ptt e ≡ true → is_overlaid s.ptt e ≡ true
  overlaid-before e h =
      let both = and_parts (is_buffered e.work) (block_is_framed (committed_state s).ptt e.block) h in
      ap (λ (x : Bool). x && block_is_framed s.ptt e.block) both.0 ∙ block-framed e.block both.1

  pub owed-committed : waiting (committed_state s).btt ≤ waiting s.btt
  unfolding committed_state
  owed-committed = count-implied (option_and_then committed_entry) (passes waits_of) (passes waits_of) None s.btt.entries
      (λ i l. by_entry (entry_at s.btt i)) where
        waits_of : BttEntry → Bool
        waits_of e = waits e.pend

        by_entry : (o : Option BttEntry) → passes waits_of (option_and_then committed_entry o) ≡ true → passes waits_of o ≡ true
        by_entry None h = h
        by_entry (Some e) h = committed-waits e.v1 e.work e h

  pub overlays-committed : overlays (committed_state s) ≤ overlays s
  unfolding committed_state
  overlays-committed =
      count-implied (option_and_then committed_entry) (passes (is_overlaid s.ptt))
      (passes (is_overlaid (committed_state s).ptt)) None s.btt.entries (λ i l. by_entry (entry_at s.btt i))
    where
      by_entry : (o : Option BttEntry) → passes (is_overlaid (committed_state s).ptt) (option_and_then committed_entry o) ≡ true
          → passes (is_overlaid s.ptt) o ≡ true
      by_entry None h = h
      by_entry (Some e) h = overlaid-before e (committed-lies (committed_state s).ptt e.v1 e.work e h)

  pub promoted-committed : promoted (committed_state s).ptt ≡ promoted s.ptt
  unfolding committed_state
  promoted-committed = omega (
    arith,
    count-implied (option_and_then committed_page) (passes is_promoted) (passes is_promoted) None s.ptt.entries (λ j l. fewer (entry_at s.ptt j)),
    count-implies (option_and_then committed_page) (passes is_promoted) (passes is_promoted) None s.ptt.entries
        (λ j l. more j (entry_at s.ptt j) refl),
  )
    where
      fewer : (o : Option PttEntry) → passes is_promoted (option_and_then committed_page o) ≡ true → passes is_promoted o ≡ true
      fewer None h = h
      fewer (Some e) h = committed-promoted e.leaving e h

      more : (j : ℕ) (o : Option PttEntry) → entry_at s.ptt j ≡ o → passes is_promoted o ≡ true
          → passes is_promoted (option_and_then committed_page o) ≡ true
      more j None was h = h
      more j (Some e) was h = stays-promoted e.leaving e (leaving-framed j e was) h

  pub unfilled-committed : unfilled (committed_state s) ≡ unfilled s
  unfolding committed_state
  unfilled-committed = sum-alike fills_left (option_and_then committed_page) None s.ptt.entries (λ j l. by_entry j (entry_at s.ptt j) refl) where
    by_entry : (j : ℕ) (o : Option PttEntry) → entry_at s.ptt j ≡ o → fills_left (option_and_then committed_page o) ≡ fills_left o
    by_entry j None was = refl
    by_entry j (Some e) was = fills-stay e.leaving e (leaving-framed j e was)

-- ---- the DRAM

pub written-dram : (side : Bool) (at : ℕ) (v : Block) (d : Devices) → side ≡ false
    → (if side then record d { dram = written d.dram at v } else record d { nvm = written_to d.nvm at v }).dram ≡ d.dram
written-dram true at v d e = cc
written-dram false at v d e = refl

-- a block that moves to a place of the NVM is written there
pub written-nvm : (side : Bool) (at : ℕ) (v : Block) (d : Devices) → side ≡ false
    → (if side then record d { dram = written d.dram at v } else record d { nvm = written_to d.nvm at v }).nvm ≡ written_to d.nvm at v
written-nvm true at v d e = cc
written-nvm false at v d e = refl

-- each block's place in the checkpoint under way is one of the NVM, after both slots
pub target-in_nvm : (s : State) (b : ℕ) → in_dram (target (cell_of s b)) ≡ false
target-in_nvm s b = placed-in_nvm (cell_of s b).entry.v1 (cell_of s b).page.target (seat_of (cell_of s b))
