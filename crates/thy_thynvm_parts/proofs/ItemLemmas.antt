-- Every position that is written leads to the next one.
use Rattle.std.proofs.Common.{◌≡◌, ◌⊎◌, ℕ, ◌+◌, ◌*◌, ◌≤◌, nat_lt, Bool, true, false, if◌then◌else◌, [], replicate, Option, Some, None, refl, sym, ◌∙◌, ap, subst, inl, inr, arith}
use Rattle.std.proofs.lemmas.List.{length-replicate}
use Rattle.thy_block.specs.Device.{Device, Plain, zero_block}
use Rattle.thy_block.specs.Store.{page_of}
use Rattle.thy_table.specs.declared.place.Place.{Place}
use Rattle.thy_table.specs.Places.{in_dram, number_of, image_blocks}
use Rattle.thy_dram.specs.Contents.{Contents}
use Rattle.thy_table.specs.Devices.{devices_of}
use Rattle.thy_table.specs.Listing.{IsListing, entry_at, lists}
use Rattle.thy_table.proofs.ListingLaws.{IsListing-set, index_of-lists}
use Rattle.thy_table.specs.PageEntry.{page_blocks}
use Rattle.thy_table.specs.declared.cell.Cell.{Cell}
use Rattle.thy_table.specs.Cells.{seat_of, frame_at, target, last}
use Rattle.thy_table.specs.Checkpoint.{page_issued}
use Rattle.thy_table.specs.Rules.{after_copy}
use Rattle.thy_layout.specs.declared.engine_step.EngineStep.TheVariants.{Copied, PageBlock}
use Rattle.thy_control.specs.Commit.{committed_state}
use Rattle.thy_control.specs.Copies.{next_copy, copies_left, block_listed, devices_copied, copied, after_next_copy}
use Rattle.thy_control.specs.Frees.{HasNoWork}
use Rattle.thy_control.specs.Holding.{promoted}
use Rattle.thy_control.specs.Keys.{block_key, page_key}
use Rattle.thy_control.specs.Positions.{position_by}
use Rattle.thy_control.specs.Pages.{next_page, writes_left, block_to_write, devices_issued, issued, after_next_write}
use Rattle.thy_control.specs.State.{State, AreSoundTables, IsSized, cell_of, reads}
use Rattle.thy_control.specs.Stays.{AreCopied}
use Rattle.thy_control.proofs.StateLemmas.{block-cell_of, page-cell_of}
use Rattle.thy_control.proofs.CommitLemmas.{AreSoundTables-committed}
use Rattle.thy_control.proofs.CopyLemmas.{IsNext, IsNext-entry, listed-pending, AreSoundTables-copied, copies_left-next}
use Rattle.thy_control.proofs.CountLemmas.{promoted-set}
use Rattle.thy_control.proofs.SealStateLemmas.{HasNoWork-committed}
use Rattle.thy_control.proofs.IssueLemmas.{IsDue, IsDue-entry, listed-busy, AreSoundTables-issued, writes_left-next}
use Rattle.thy_control.proofs.LeftLemmas.{AreCopied-none}
use Rattle.thy_thynvm_parts.specs.Filling.{filling_thynvm}
use Rattle.thy_checkpoint.specs.Items.{AreItems, GoesTo, Resting}
use Rattle.thy_thynvm_parts.specs.Design.{is_promoting, written_by, with_copied, with_issued, StandsAt, StandsMade, items_thynvm, IsButCopied}
use Rattle.thy_thynvm_parts.proofs.HeldLemmas.{but-copied, no_work-copied, written-dram, promoted-committed, target-in_nvm}
use Rattle.thy_thynvm_parts.proofs.LeftLemmas.{copies-few, writes-few, writes-copied}
use Rattle.thy_thynvm_parts.proofs.RuleLemmas.{page_write_keeps, page_write_keeps_others, commit_keeps_sound}

-- ---- the controller after a position, whatever the NVM

-- an NVM of its size
abbrev pub some_device : State → Device
some_device s = record {
  image = replicate (image_blocks s.p) zero_block;
  queue = [];
  left = [];
  picks = [];
  queue_room = 0;
  left_room = 0;
  down = false;
  faults = 0;
  fits = 0;
  lent = [];
  whole = true;
  writes = 0;
  wear = Plain;
}

some_sized : (s : State) → IsSized s (some_device s)
some_sized s = record { nvm = length-replicate (image_blocks s.p) zero_block }

pub copied_is : (b : ℕ) (s : State) (m : Device) → copied b s m ≡ with_copied b s
unfolding copied devices_copied
copied_is b s m =
    let y : Place = target (cell_of s b) in
    ap (λ (d : Contents). record (with_copied b s) { dram = d })
    (written-dram (in_dram y) (number_of s.p y) (reads s m (last (cell_of s b))) (devices_of m s.dram) (target-in_nvm s b))

pub issued_is : (b : ℕ) (s : State) (m : Device) → issued b s m ≡ with_issued b s
unfolding issued devices_issued
issued_is b s m =
    let y : Place = target (cell_of s b) in
    ap (λ (d : Contents). record (with_issued b s) { dram = d })
    (written-dram (in_dram y) (number_of s.p y) (reads s m (frame_at (seat_of (cell_of s b)))) (devices_of m s.dram) (target-in_nvm s b))

-- after a copy the controller's tables are sound
pub sound_copied : (s : State) → AreSoundTables s → (b : ℕ) → IsNext s b → AreSoundTables (with_copied b s)
sound_copied s t b next =
    let c : Cell = cell_of s b in
    let listed = listed-pending b s next.pending in
    let was : lists block_key (after_copy c).entry.block (entry_at s.btt c.i) ≡ true =
    ap (λ (k : ℕ). lists block_key k (entry_at s.btt c.i)) (block-cell_of s b) ∙ index_of-lists block_key s.btt b c.i listed in
    let once : IsListing block_key (with_copied b s).btt = IsListing-set block_key s.btt t.btt_once c.i (after_copy c).entry was in
    let m : Device = some_device s in
    let is : copied b s m ≡ with_copied b s = copied_is b s m in
    subst (λ (x : State). AreSoundTables x) is
    (AreSoundTables-copied b s next.pending m t (some_sized s) next.inside (subst (λ (x : State). IsListing block_key x.btt) (sym is) once))

pub sound_issued : (s : State) → AreSoundTables s → (b : ℕ) → IsDue s b → AreSoundTables (with_issued b s)
sound_issued s t b due =
    let c : Cell = cell_of s b in
    let listed = listed-busy b s due.busy in
    let was : lists page_key (page_issued c.page).page (entry_at s.ptt c.j) ≡ true =
    ap (λ (k : ℕ). lists page_key k (entry_at s.ptt c.j)) (page-cell_of s b) ∙ index_of-lists page_key s.ptt (page_of b) c.j listed in
    let once : IsListing page_key (with_issued b s).ptt = IsListing-set page_key s.ptt t.ptt_once c.j (page_issued c.page) was in
    let m : Device = some_device s in
    let is : issued b s m ≡ with_issued b s = issued_is b s m in
    subst (λ (x : State). AreSoundTables x) is
    (AreSoundTables-issued b s due.busy m t (some_sized s) due.inside due.due page_write_keeps page_write_keeps_others
    (subst (λ (x : State). IsListing page_key x.ptt) (sym is) once))

-- a copy gives no block work that had none
pub no_work_copied : (s : State) (b : ℕ) → IsNext s b → HasNoWork s → HasNoWork (with_copied b s)
no_work_copied s b next none =
    let m : Device = some_device s in
    no_work-copied s (with_copied b s) (subst (λ (x : State). IsButCopied s x) (copied_is b s m) (but-copied b s m next.pending)) none

-- the write of a page's block leaves the number of pages that are being promoted
promoted_issued : (s : State) (b : ℕ) → IsDue s b → promoted (with_issued b s).ptt ≡ promoted s.ptt
promoted_issued s b due = promoted-set s b (page_issued (cell_of s b).page) (listed-busy b s due.busy) refl

stands_copied : (s : State) (b : ℕ) → StandsAt true s → IsNext s b → StandsAt true (with_copied b s)
stands_copied s b at next = record {
  tables = sound_copied s at.tables b next;
  way_is = at.way_is;
  promotes = λ p. no_work_copied s b next (at.promotes p);
}

stands_issued : (s : State) (b : ℕ) → StandsAt true s → IsDue s b → StandsAt true (with_issued b s)
stands_issued s b at due = record {
  tables = sound_issued s at.tables b due;
  way_is = at.way_is;
  promotes = λ p.
      let before : is_promoting s ≡ true = ap (λ (k : ℕ). nat_lt 0 k) (sym (promoted_issued s b due)) ∙ p in
      record { no_work = (at.promotes before).no_work };
}

-- ---- a position

-- the controller goes on with the same geometry and the same DRAM
pub record GoesOn (s t : State) : Type 0 where
  pub same_p : t.p ≡ s.p
  pub dram : t.dram ≡ s.dram

module _ (s : State) (at : StandsAt true s) where
  -- the controller after a position is that after a copy, or after the write of a block of a page
  pub stands_by : (i j : Option ℕ) (k : ℕ) → next_copy s ≡ i → next_page s ≡ j → position_by s i j ≡ Some k
      → StandsAt true (written_by s i j)
  stands_by (Some i) j k copy page is = stands_copied s (block_listed i s) at (IsNext-entry s at.tables i copy)
  stands_by None (Some j) k copy page is = stands_issued s (block_to_write j s) at (IsDue-entry s at.tables j page)
  stands_by None None k copy page is = cc

  pub same_by : (i j : Option ℕ) → GoesOn s (written_by s i j)
  same_by None (Some j) = record { same_p = refl; dram = refl }
  same_by i j = record { same_p = refl; dram = refl }

  -- if none is next, all is copied and written
  none_by : (i j : Option ℕ) → next_copy s ≡ i → next_page s ≡ j → position_by s i j ≡ None → AreCopied s
  none_by None None copy page is = AreCopied-none s (record { copies = copy; pages = page })
  none_by i j copy page is = cc

  -- after an item one position less is left
  pub counts_by : (i j : Option ℕ) (k : ℕ) → next_copy s ≡ i → next_page s ≡ j → position_by s i j ≡ Some k
      → copies_left (written_by s i j) + writes_left (written_by s i j) + 1 ≡ copies_left s + writes_left s
  counts_by (Some i) j k copy page is =
      let m : Device = some_device s in
      let b : ℕ = block_listed i s in
      let e : copied b s m ≡ with_copied b s = copied_is b s m in
      let less : copies_left (after_next_copy (Some i) s m) + 1 ≡ copies_left s = copies_left-next s m at.tables (Some i) copy in
      omega (arith, less, ap copies_left e, ap writes_left e, writes-copied b s m)
  counts_by None (Some j) k copy page is =
      let m : Device = some_device s in
      let b : ℕ = block_to_write j s in
      let e : issued b s m ≡ with_issued b s = issued_is b s m in
      let less : writes_left (after_next_write (Some j) s m) + 1 ≡ writes_left s = writes_left-next s m at.tables (Some j) page in
      omega (arith, less, ap writes_left e)
  counts_by None None k copy page is = cc

-- ---- the commit

stands_committed : (s : State) → StandsMade s → StandsAt false (committed_state s)
unfolding committed_state
stands_committed s made = record {
  tables = AreSoundTables-committed s made.at.tables made.at.way_is made.copied commit_keeps_sound;
  way_is = refl;
  promotes = λ p.
      let before : is_promoting s ≡ true = ap (λ (k : ℕ). nat_lt 0 k) (sym (promoted-committed s made.at.tables)) ∙ p in
      HasNoWork-committed s (made.at.promotes before);
}

commits_to : (s : State) → StandsMade s → GoesTo filling_thynvm items_thynvm Resting s (committed_state s)
unfolding committed_state
commits_to s made = record { same_p = refl; dram = refl; stands = stands_committed s made }

-- ---- what is reported, and how many there are

steps_are : (first : Bool) → ((if first then Copied else PageBlock) ≡ Copied) ⊎ ((if first then Copied else PageBlock) ≡ PageBlock)
steps_are true = inl refl
steps_are false = inr refl

most_left : (s : State) → AreSoundTables s → copies_left s + writes_left s ≤ s.p.btt + page_blocks * s.p.ptt
most_left s t = omega (arith, copies-few s t, writes-few s t)

-- ---- all of it

pub items_are : AreItems filling_thynvm items_thynvm
items_are = record {
  body_onwards = λ s from k at next. (next, at);
  tail_onwards = λ s from k no next. absurd no;
  body = λ s k at next.
      let same = same_by s at (next_copy s) (next_page s) in
      record { same_p = same.same_p; dram = same.dram; stands = stands_by s at (next_copy s) (next_page s) k refl refl next };
  body_ends = λ s from at none. record { at = at; copied = none_by s at (next_copy s) (next_page s) refl refl none };
  commits = commits_to;
  tail = λ s k no next. absurd no;
  releases = λ s from no none. absurd no;
  body_counts = λ s from k at next.
      let one = counts_by s at (next_copy s) (next_page s) k refl refl next in omega (arith, one);
  tail_counts = λ s from k no next. absurd no;
  steps = λ p k. steps_are (nat_lt k p.btt);
  body_most = λ s from at. most_left s at.tables;
  tail_most = λ p from. omega arith;
  tail_follows = λ s from no. absurd no;
}
