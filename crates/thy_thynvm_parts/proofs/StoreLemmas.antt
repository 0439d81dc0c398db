-- A store changes one block, as each load then shows, and leaves what loads and stores keep.
use Rattle.std.proofs.Common.{◌≡◌, ◌≢◌, ℕ, zero, suc, ◌+◌, ◌-◌, ◌%◌, ◌<◌, ◌≤◌, ◌==◌, ◌&&◌, not, nat_lt, Bool, true, false, if◌then◌else◌, List, ◌∷◌, Option, Some, None, Ok, Err, refl, sym, ◌∙◌, ap, subst, inl, inr, arith}
use Rattle.std.proofs.lemmas.Bool.{and_parts, cases_eq, eqb-true, lt-ltb, ne_eqb}
use Rattle.thy_block.specs.declared.block.Block.{Block}
use Rattle.thy_block.specs.declared.parameters.Parameters.{Parameters}
use Rattle.thy_block.specs.declared.nvm.NvmError.TheVariants.{Failed}
use Rattle.thy_block.specs.declared.store.Stored.{Stored}
use Rattle.thy_block.specs.declared.store.Stored.TheVariants.{Done, CopyFirst}
use Rattle.thy_block.specs.Device.{Device, block_at, newest, written_to, HasFailed, HasFailedToWrite, IsFramed}
use Rattle.thy_block.specs.Geometry.{memory_blocks}
use Rattle.thy_block.specs.Store.{HasStored, page_of}
use Rattle.thy_block.proofs.DeviceLemmas.{length-written_to}
use Rattle.thy_table.specs.declared.place.Place.{Place}
use Rattle.thy_table.specs.Places.{in_dram, number_of, image_blocks, first_home, slot_blocks, slot_place, table_blocks}
use Rattle.thy_dram.specs.Contents.{written}
use Rattle.thy_table.specs.Devices.{Devices, devices_of}
use Rattle.thy_layout.specs.Spares.{Spares}
use Rattle.thy_table.specs.Listing.{Listing, IsListing, entry_at, lists, index_of, free_index, free_count, added_at, mapped}
use Rattle.thy_table.proofs.ListingLaws.{IsListing-set, IsListing-put}
use Rattle.thy_table.specs.declared.block_entry.BttEntry.{BttEntry}
use Rattle.thy_table.specs.declared.page_entry.PttEntry.{PttEntry}
use Rattle.thy_table.specs.BlockEntry.{new_entry}
use Rattle.thy_table.specs.LastBlocks.{last_block_of}
use Rattle.thy_table.specs.declared.cell.Cell.{Cell}
use Rattle.thy_table.specs.declared.cell.StoreRule.{StoreRule}
use Rattle.thy_table.specs.declared.cell.StoreRule.TheVariants.{ToFrame, ToBuffer, ToNvm}
use Rattle.thy_table.specs.Rules.{store_place, after_store}
use Rattle.thy_table.specs.Store.{put_by}
use Rattle.thy_layout.specs.declared.layout_version.LayoutVersion.{LayoutVersion}
use Rattle.thy_layout.specs.declared.layout_version.LayoutVersion.TheVariants.{VersionTwo}
use Rattle.thy_layout.specs.Commit.{commit_of, epoch_of, version_of}
use Rattle.thy_layout.specs.Layout.{looked_by}
use Rattle.thy_layout.proofs.ReadBackLemmas.{version_of-commit_of}
use Rattle.thy_record.specs.ThynvmLayouts.{thynvm_layouts}
use Rattle.thy_record.specs.Number.{scheme_number}
use Rattle.thy_record.specs.TableBlocks.{table_block_of}
use Rattle.thy_record.specs.VersionSlots.{blocks_of_slot, place_of_slot}
use Rattle.thy_record.proofs.IssuingLemmas.{slot_behind}
use Rattle.thy_computer.specs.Action.{IsAccess, after, FailsTo}
use Rattle.thy_computer.specs.Dram.{ActsOnDram, WritesBlock}
use Rattle.thy_control.specs.CheckpointTables.{tables0, tables1}
use Rattle.thy_control.specs.Find.{with_found}
use Rattle.thy_control.specs.Frees.{HasNoWork, settled}
use Rattle.thy_control.specs.Guarded.{LeavesGuarded}
use Rattle.thy_control.specs.Holding.{AreWorks, promoted, holding_of as held_by}
use Rattle.thy_control.specs.Keys.{block_key, page_key}
use Rattle.thy_control.specs.Rules.{with_block, rule_for, cell_before, devices_after, state_after, FailsStore, IsWholeState}
use Rattle.thy_control.specs.State.{State, AreSoundTables, reads, penult_of, last_of}
use Rattle.thy_control.specs.Stays.{AreCopied, Stays as StaysControl, StaysUp, StaysHeld}
use Rattle.thy_control.specs.StoredTables.{btt_with, btt_after, ptt_after, answer_of}
use Rattle.thy_control.specs.OverCalls.{stays_same, stays_on}
use Rattle.thy_control.proofs.StateLemmas.{block-cell_of, page-cell_of}
use Rattle.thy_control.proofs.KeepLemmas.{Outcome, there, behind_slots, LeavesGuarded-after, HoldAll-after, Kept, Kept-after}
use Rattle.thy_control.proofs.HoldingLemmas.{AreWorks-holding}
use Rattle.thy_control.proofs.PutLemmas.{block_listed, page_listed, put_by-reads, after-i, after-j, after-block, after-page, AreSoundTables-after}
use Rattle.thy_control.proofs.StayLemmas.{Stays-done, Stays-failed, stays_read, free_at}
use Rattle.thy_control.proofs.StoreLemmas.{ready-whole, stored_by}
use Rattle.thy_checkpoint.specs.Items.{Phase, Resting, Making, Made, Applying}
use Rattle.thy_scheme_parts.specs.Holding.{holding_of}
use Rattle.thy_scheme_parts.specs.Moments.{IsMoment, MakesAt}
use Rattle.thy_scheme_parts.specs.Storing.{CanStore, MakesStore, SealedStays, SlotStaysAt, StaysAt, StaysOver, IsStoring}
use Rattle.thy_thynvm_parts.specs.Design.{StandsAt, items_thynvm, slot_rest, IsOfRest, HasRoom, rests_at, write_there, store_action, PromotesOn, StaysThynvm, IsStill, thynvm_design}
use Rattle.thy_thynvm_parts.proofs.ReadLemmas.{blocks-agree}
use Rattle.thy_thynvm_parts.proofs.DesignLemmas.{meant_on, counts_on, makes_on}
use Rattle.thy_thynvm_parts.proofs.SlotLemmas.{Spares-stays, Spares-stays_next}
use Rattle.thy_thynvm_parts.proofs.LeftLemmas.{copies-most, writes-most}
use Rattle.thy_thynvm_parts.proofs.RuleLemmas.{store_goes_elsewhere, store_leaves_target, store_reads, store_holds}

-- ---- the tables after a store list nothing twice

listing_with : (s : State) → AreSoundTables s → (b : ℕ) → b < memory_blocks s.p → (r : StoreRule) → IsListing block_key (btt_with r b s.btt)
listing_with s t b l r = by_rule r where
  by_free : (o : Option ℕ) → free_index s.btt ≡ o → index_of block_key b s.btt ≡ None
      → IsListing block_key (record s.btt { entries = added_at o (new_entry b) s.btt.entries })
  by_free None free none = t.btt_once
  by_free (Some i) free none =
      IsListing-put block_key s.btt t.btt_once i (new_entry b) (free_at s.btt i free).1 none (omega (arith, l, t.btt_numbers))

  by_place : (o : Option ℕ) → index_of block_key b s.btt ≡ o → IsListing block_key (with_found block_key new_entry o b s.btt)
  by_place None none = by_free (free_index s.btt) refl none
  by_place (Some i) found = t.btt_once

  by_rule : (q : StoreRule) → IsListing block_key (btt_with q b s.btt)
  by_rule ToBuffer = by_place (index_of block_key b s.btt) refl
  by_rule ToNvm = by_place (index_of block_key b s.btt) refl
  by_rule q = t.btt_once

btt_listing : (r : StoreRule) (c : Cell) (u : Listing BttEntry) → IsListing block_key u
    → (r ≢ ToFrame → lists block_key c.entry.block (entry_at u c.i) ≡ true) → IsListing block_key (btt_after r c u)
btt_listing ToFrame c u once was = once
btt_listing r c u once was = IsListing-set block_key u once c.i c.entry (was (λ e. cc))

ptt_listing : (r : StoreRule) (c : Cell) (u : Listing PttEntry) → IsListing page_key u
    → (r ≡ ToFrame → lists page_key c.page.page (entry_at u c.j) ≡ true) → IsListing page_key (ptt_after r c u)
ptt_listing ToFrame c u once was = IsListing-set page_key u once c.j c.page (was refl)
ptt_listing r c u once was = once

block_before : (b : ℕ) (s : State) → (cell_before b s).entry.block ≡ b
unfolding cell_before
block_before b s = block-cell_of (with_block (rule_for b s) b s) b

page_before : (b : ℕ) (s : State) → (cell_before b s).page.page ≡ page_of b
unfolding cell_before
page_before b s = page-cell_of (with_block (rule_for b s) b s) b

-- ---- a block of the holding

-- a page is being promoted exactly if one is counted
none_is : (k : ℕ) → not (nat_lt 0 k) ≡ (k == 0)
none_is k = elim (cases_eq k 0) as (λ _. not (nat_lt 0 k) ≡ (k == 0)) [
  | inl e ↦ ap (λ (x : ℕ). not (nat_lt 0 x)) e ∙ sym (ap (λ (x : ℕ). x == 0) e)
  | inr ne ↦ ap not (lt-ltb 0 k (omega (arith, ne))) ∙ sym (ne_eqb k 0 ne)
]

ready_same : (s : State) (n : Device) → (holding_of thynvm_design s n).ready ≡ (held_by s n).ready
ready_same s n = ap (λ (x : Bool). x && not n.down) (none_is (promoted s.ptt))

held_as : (x : Stored) (b : ℕ) (block : Block) (s : State) (n : Device) (t : State) (m : Device)
    → HasStored x b block (held_by s n) (held_by t m)
    → HasStored x b block (holding_of thynvm_design s n) (holding_of thynvm_design t m)
held_as Done b block s n t m h = record {
  blocks = h.blocks;
  free = h.free;
  ready = ready_same t m ∙ h.ready ∙ sym (ready_same s n);
  closed = h.closed;
  owed = h.owed;
}
held_as CopyFirst b block s n t m h = record {
  blocks = h.blocks;
  free = h.free;
  ready = ready_same t m ∙ h.ready ∙ sym (ready_same s n);
  open_page = h.open_page;
  owed = h.owed;
}

-- ---- its action

-- both devices after a write at a place of the DRAM or of the NVM
abbrev devices_with : Bool → ℕ → Block → Devices → Devices
devices_with side x block d = if side then record d { dram = written d.dram x block } else record d { nvm = written_to d.nvm x block }

-- this write as an action on the NVM
acts_there : (side : Bool) (x : ℕ) (block : Block) (d : Devices)
    → after d.nvm.writes (write_there side x block) d.nvm ≡ (devices_with side x block d).nvm
acts_there true x block d = refl
acts_there false x block d = refl

pub action_is : (b : ℕ) (block : Block) (s : State) (n : Device)
    → after n.writes (store_action b block s) n ≡ (devices_after b block s n).nvm
unfolding devices_after
action_is b block s n =
    let c : Cell = cell_before b s in
    let r : StoreRule = rule_for b s in
    let x : Place = store_place r c in
    ap (λ (v : Block). after n.writes (write_there (in_dram x) (number_of s.p x) v) n) (put_by-reads r block s n c)
    ∙ acts_there (in_dram x) (number_of s.p x) (put_by r block (reads s n) c) (devices_of n s.dram)

framed_there : (side : Bool) (x : ℕ) (block : Block) (d : Devices) → IsFramed d.nvm (devices_with side x block d).nvm
framed_there true x block d =
    record { blocks = refl; left = refl; picks = refl; queue_room = refl; left_room = refl; fits = refl; lent = refl; whole = refl }
framed_there false x block d = record {
  blocks = length-written_to d.nvm x block;
  left = refl;
  picks = refl;
  queue_room = refl;
  left_room = refl;
  fits = refl;
  lent = refl;
  whole = refl;
}

writes_there : (side : Bool) (x : ℕ) (block : Block) (d : Devices) → WritesBlock d.nvm (devices_with side x block d).nvm
    d.dram (devices_with side x block d).dram
writes_there true x block d = inr (record { at = x; block = block; left = refl; nvm = refl })
writes_there false x block d = inl (record { at = x; block = block; left = refl })

dram_there : (side : Bool) (x : ℕ) (block : Block) (d : Devices) → ActsOnDram d.nvm (devices_with side x block d).nvm
    d.dram (devices_with side x block d).dram
dram_there true x block d = inr (record { at = x; block = block; left = refl; nvm = refl })
dram_there false x block d = inl refl

room_there : (side : Bool) (x : ℕ) (block : Block) (d : Devices) → (devices_with side x block d).dram.room ≡ d.dram.room
room_there true x block d = refl
room_there false x block d = refl

-- a store's write leaves the commit block
access_there : (side : Bool) (x : ℕ) (block : Block) → (side ≡ false → 2 ≤ x) → IsAccess (write_there side x block)
access_there true x block behind = tt
access_there false x block behind = λ e. let low : 2 ≤ x = behind refl in absurd (omega (arith, e, low))

pub access : (b : ℕ) (block : Block) (s : State) → IsAccess (store_action b block s)
access b block s =
    let x : Place = store_place (rule_for b s) (cell_before b s) in
    access_there (in_dram x) (number_of s.p x)
    (put_by (rule_for b s) block (λ y. block_at s.dram.blocks (number_of s.p y)) (cell_before b s)) (λ side.
    let behind : first_home s.p ≤ number_of s.p x = behind_slots s.p x side in omega (arith, behind))

-- ---- a store

module _ (b : ℕ) (block : Block) (s : State) (n : Device) (can : CanStore thynvm_design b s n) where
  abbrev t : State
  t = state_after b block s n

  abbrev d : Devices
  d = devices_after b block s n

  ready : (held_by s n).ready ≡ true
  ready = sym (ready_same s n) ∙ can.ready

  pub works : AreWorks s n b
  works = AreWorks-holding s n b can.inside

  pub whole : IsWholeState s × (n.down ≡ false)
  whole = ready-whole s n ready

  sound_after : AreSoundTables t
  unfolding state_after
  sound_after =
      let r : StoreRule = rule_for b s in
      let c : Cell = cell_before b s in
      let a : Cell = after_store r c in
      let u : Listing BttEntry = btt_with r b s.btt in
      AreSoundTables-after b block s n can.sound works.sized whole.0 works.inside can.room
      (btt_listing r a u (listing_with s can.sound b works.inside r) (λ other.
      ap (λ (k : ℕ). lists block_key k (entry_at u a.i)) (after-block r c ∙ block_before b s)
      ∙ ap (λ (i : ℕ). lists block_key b (entry_at u i)) (after-i r c) ∙ block_listed s b can.room other))
      (ptt_listing r a s.ptt can.sound.ptt_once (λ frame.
      ap (λ (k : ℕ). lists page_key k (entry_at s.ptt a.j)) (after-page r c ∙ page_before b s)
      ∙ ap (λ (j : ℕ). lists page_key (page_of b) (entry_at s.ptt j)) (after-j r c) ∙ page_listed s b can.room frame))

  kept : Kept b block s n t d.nvm (answer_of (rule_for b s))
  kept = Kept-after store_reads b block s n can.sound works.sized whole.0 works.inside can.room

  guarded : (m : Device) → Outcome b block s n m → LeavesGuarded s n m
  guarded m = LeavesGuarded-after store_goes_elsewhere store_leaves_target b s can.sound whole.0 works.inside can.room block n m

  framed : IsFramed n d.nvm
  unfolding devices_after
  framed =
      let x : Place = store_place (rule_for b s) (cell_before b s) in
      framed_there (in_dram x) (number_of s.p x) (put_by (rule_for b s) block (reads s n) (cell_before b s)) (devices_of n s.dram)

  stays_control : StaysControl s n t d.nvm
  stays_control =
      Stays-done b block s n can.sound works.sized can.room works.up
      (there store_goes_elsewhere store_leaves_target b s can.sound whole.0 works.inside can.room) framed (guarded d.nvm (inl refl))
      kept.checkpoints (HoldAll-after store_holds b block s n can.sound works.sized whole.0 works.inside can.room)

  has_stored : HasStored (answer_of (rule_for b s)) b block (held_by s n) (held_by t d.nvm)
  has_stored =
      stored_by b block s n t d.nvm (Ok (answer_of (rule_for b s))) refl refl refl kept.work_put works.sized works.up can.room stays_control

  -- no page is being promoted
  none_promoted : (x : Stored) → HasStored x b block (held_by s n) (held_by t d.nvm) → promoted t.ptt ≡ 0
  none_promoted Done h = eqb-true (promoted t.ptt) 0 (and_parts (promoted t.ptt == 0) (not d.nvm.down) (h.ready ∙ ready)).0
  none_promoted CopyFirst h = eqb-true (promoted t.ptt) 0 (and_parts (promoted t.ptt == 0) (not d.nvm.down) (h.ready ∙ ready)).0

  room : t.dram.room ≡ s.dram.room
  unfolding state_after devices_after
  room =
      let x : Place = store_place (rule_for b s) (cell_before b s) in
      room_there (in_dram x) (number_of s.p x) (put_by (rule_for b s) block (reads s n) (cell_before b s)) (devices_of n s.dram)

  stores : StaysThynvm s n t d.nvm
  stores = record {
    control = stays_control;
    room = room;
    tables = λ old. sound_after;
    promotes = λ p.
        let no : false ≡ true = sym (ap (λ (k : ℕ). nat_lt 0 k) (none_promoted (answer_of (rule_for b s)) has_stored)) ∙ p in
        absurd cc;
  }

  makes_device : MakesStore thynvm_design b block s n t d.nvm
  unfolding state_after devices_after
  makes_device =
      let x : Place = store_place (rule_for b s) (cell_before b s) in
      let v : Block = put_by (rule_for b s) block (reads s n) (cell_before b s) in
      record {
        stored = held_as (answer_of (rule_for b s)) b block s n t d.nvm has_stored;
        dram = dram_there (in_dram x) (number_of s.p x) v (devices_of n s.dram);
        copies = λ less. writes_there (in_dram x) (number_of s.p x) v (devices_of n s.dram);
        stays = stores;
        still = λ h. let no : false ≡ true = h in absurd cc;
      }

  makes : MakesStore thynvm_design b block s n t (after n.writes (store_action b block s) n)
  makes = subst (λ (m : Device). MakesStore thynvm_design b block s n t m) (sym (action_is b block s n)) makes_device

  -- a write of a store that failed
  fails_there : (side : Bool) (x : ℕ) (v : Block) (m : Device) → FailsTo (write_there side x v) n m
      → (side ≡ false) × HasFailedToWrite x v n m
  fails_there true x v m failed = absurd failed
  fails_there false x v m failed = (refl, failed)

  fails : (m : Device) → FailsTo (store_action b block s) n m → IsFramed n m → StaysThynvm s n s m
  fails m failed framed_now =
      let r : StoreRule = rule_for b s in
      let c : Cell = cell_before b s in
      let x : Place = store_place r c in
      let both = fails_there (in_dram x) (number_of s.p x) (put_by r block (λ y. block_at s.dram.blocks (number_of s.p y)) c) m failed in
      let store : FailsStore b block s n m = record {
        in_nvm = both.0;
        failed = subst (λ (v : Block). HasFailedToWrite (number_of s.p x) v n m) (put_by-reads r block s n c) both.1;
      } in
      record {
        control = Stays-failed b block s n m store framed_now (guarded m (inr store));
        room = refl;
        tables = λ old. old;
        promotes = λ p. record { before = p; blocks = refl };
      }

load_stays : (s : State) (n m : Device) → HasFailed n m → IsFramed n m → StaysThynvm s n s m
load_stays s n m failed framed = record {
  control = stays_read s n m (Err Failed) tt failed framed;
  room = refl;
  tables = λ old. old;
  promotes = λ p. record { before = p; blocks = refl };
}

-- ---- what stays, over any number of calls

on_stays : (a : State) (l : Device) (b : State) (m : Device) (c : State) (n : Device) → StaysThynvm a l b m → StaysThynvm b m c n
    → StaysThynvm a l c n
on_stays a l b m c n first second = record {
  control = stays_on a l b m c n first.control second.control;
  room = second.room ∙ first.room;
  tables = λ old. second.tables (first.tables old);
  promotes = λ p.
      let on : PromotesOn b c = second.promotes p in
      let was : PromotesOn a b = first.promotes on.before in
      record { before = was.before; blocks = on.blocks ∙ was.blocks };
}

pub work_same : (s t : State) → t.btt ≡ s.btt → HasNoWork s → HasNoWork t
work_same s t same none = record {
  no_work = λ i e was. none.no_work i e (ap (λ (u : Listing BttEntry). entry_at u i) (sym same) ∙ was);
}

still_rest : (s t : State) → IsStill s t → IsOfRest s → IsOfRest t
still_rest s t still room = record {
  before = room.before;
  tables = room.tables;
  same_p = room.same_p ∙ sym still.same_p;
  no_work = room.no_work;
  copied = ap (mapped settled) still.blocks ∙ room.copied;
}

still_room : (phase : Phase) (s t : State) → IsStill s t → HasRoom phase s → HasRoom phase t
still_room Resting s t still room = subst (λ (u : Listing BttEntry). 2 ≤ free_count u) (sym still.blocks) room
still_room phase s t still room = still_rest s t still room

still_rests : (sealed : Bool) (phase : Phase) (s t : State) → IsStill s t → rests_at true sealed phase s → rests_at true sealed phase t
still_rests sealed phase s t still r = record { no_work = work_same s t still.blocks r.no_work; room = λ l. still_room phase s t still (r.room l) }

-- ---- what stays of a moment

pub copied_stays : (s : State) (n : Device) (t : State) (m : Device) → StaysControl s n t m → AreCopied s → AreCopied t
copied_stays s n t m stays copied b l =
    let before : b < memory_blocks s.p = subst (λ (p : Parameters). b < memory_blocks p) stays.same_p l in
    let cell = stays.cells b before in
    let done = copied b before in
    record {
      copied = cell.settled done.copied;
      written = λ busy. let was = done.written (cell.busy_before busy) in let issued = cell.issued in omega (arith, was, issued);
    }

at_stays : (way : Bool) (s : State) (n : Device) (t : State) (m : Device) → StaysThynvm s n t m → StandsAt way s → StandsAt way t
at_stays way s n t m stays at = record {
  tables = stays.tables at.tables;
  way_is = stays.control.same_way ∙ at.way_is;
  promotes = λ p. let on : PromotesOn s t = stays.promotes p in work_same s t on.blocks (at.promotes on.before);
}

stands_stays : (phase : Phase) (s : State) (n : Device) (t : State) (m : Device) → StaysThynvm s n t m → items_thynvm.stands phase s
    → items_thynvm.stands phase t
stands_stays Resting s n t m stays h = at_stays false s n t m stays h
stands_stays (Making from) s n t m stays h = at_stays true s n t m stays h
stands_stays Made s n t m stays h = record { at = at_stays true s n t m stays h.at; copied = copied_stays s n t m stays.control h.copied }
stands_stays (Applying from) s n t m stays h = h

-- the slot says the same
pub rest_by : (s t : State) → t.p ≡ s.p → tables1 t ≡ tables1 s → t.counts.lasts ≡ s.counts.lasts → (k : ℕ) → slot_rest t k ≡ slot_rest s k
rest_by s t p same lasts k = λ i.
    if nat_lt k (table_blocks (p i)) then table_block_of (same i) k else last_block_of (lasts i) (k - table_blocks (p i))

module _ (epoch : ℕ) (s : State) (n : Device) (t : State) (m : Device) (stays : StaysThynvm s n t m) where
  made_spared : (phase : Phase) → IsMoment thynvm_design phase epoch s n → (g : List Block) → MakesAt thynvm_design phase epoch s g
      → Spares (1 ∷ looked_by (thynvm_layouts s.p) g) n m
  made_spared Made moment g h = Spares-stays_next s n t m g VersionTwo epoch moment.sound stays.control moment.stands.copied h.meant
  made_spared phase moment g h = absurd h

  rest_stays : (k : ℕ) → slot_rest t k ≡ slot_rest s k
  rest_stays = rest_by s t stays.control.same_p stays.control.tables1_same stays.control.lasts_same

  module _ (phase : Phase) (moment : IsMoment thynvm_design phase epoch s n) (up : m.down ≡ false) where
    now : StaysUp s n t m
    now = stays.control.up up

    held : StaysHeld s n t m
    held = now.held moment.holds

    slot_reads : (k : ℕ) → k < (thynvm_layouts s.p).slot_blocks (commit_of epoch)
        → newest m ((thynvm_layouts s.p).slot_place (commit_of epoch) + k) ≡ newest n ((thynvm_layouts s.p).slot_place (commit_of epoch) + k)
    slot_reads k l =
        let version : version_of scheme_number s.p (commit_of epoch) ≡ VersionTwo = version_of-commit_of scheme_number s.p epoch in
        let r : ℕ = epoch_of (commit_of epoch) % 2 in
        let blocks : (thynvm_layouts s.p).slot_blocks (commit_of epoch) ≡ slot_blocks s.p =
        ap (λ (v : LayoutVersion). blocks_of_slot v s.p) version in
        let place : slot_place s.p r + k ≡ (thynvm_layouts s.p).slot_place (commit_of epoch) + k =
        ap (λ (v : LayoutVersion). place_of_slot v s.p r + k) (sym version) in
        let behind = slot_behind s.p r k in
        subst (λ (x : ℕ). newest m x ≡ newest n x) place
        (now.apart_reads (slot_place s.p r + k) (inr behind) (slot_inside r k (omega arith) (omega (arith, l, blocks))))
      where
        slot_inside : (r k : ℕ) → r < 2 → k < slot_blocks s.p → slot_place s.p r + k < image_blocks s.p
        slot_inside zero k two l = omega (arith, l)
        slot_inside (suc zero) k two l = omega (arith, l)
        slot_inside (suc (suc r)) k two l = absurd (omega (arith, two))

    slot_stays : (p : Phase) → SlotStaysAt thynvm_design p epoch s n t m
    slot_stays Made = record { rest = rest_stays; reads = slot_reads }
    slot_stays p = tt

    sealed_stays : (p : Phase) → SealedStays thynvm_design p s n t m
    sealed_stays Resting = tt
    sealed_stays (Applying from) = tt
    sealed_stays p = blocks-agree (last_of t m) (last_of s n) s.p t.p stays.control.same_p held.last_same

    stays_up : StaysAt thynvm_design phase epoch s n t m
    stays_up = record {
      moment = record {
        sound = stays.tables moment.sound;
        sized = stays.control.as_long ∙ moment.sized ∙ ap image_blocks (sym stays.control.same_p);
        stands = stands_stays phase s n t m stays moment.stands;
        holds = held.holds;
      };
      sealed = sealed_stays phase;
      committed = blocks-agree (penult_of t m) (penult_of s n) s.p t.p stays.control.same_p now.penult_same;
      keeps = λ g h. record {
        version = h.version;
        kept = h.kept;
        meant = meant_on s t g h.version h.kept (tables0 s) (tables0 t) stays.control.same_p stays.control.tables0_same h.meant;
        other = h.other;
        counted = counts_on s t stays.control.same_p stays.control.lasts_same phase h.version g h.counted;
      };
      makes = makes_on epoch s t stays.control.same_p stays.control.tables1_same stays.control.lasts_same phase;
      rests = λ b r. tt;
      slot = slot_stays phase;
      header = now.apart_reads 0 (inl (omega arith)) (omega arith);
      commit = now.apart_reads 1 (inl (omega arith)) (omega arith);
    }

stays_over : (phase : Phase) (epoch : ℕ) (s : State) (n : Device) (t : State) (m : Device) → IsMoment thynvm_design phase epoch s n
    → StaysThynvm s n t m → StaysOver thynvm_design phase epoch s n t m
stays_over phase epoch s n t m moment stays = record {
  kept = λ g h. Spares-stays s n t m g h.version h.kept moment.sound stays.control h.meant;
  made = made_spared epoch s n t m stays phase moment;
  left = λ from.
      let now : AreSoundTables t = stays.tables moment.sound in
      omega (arith, copies-most s n t m moment.sound now stays.control, writes-most s n t m moment.sound now stays.control);
  owed_later = omega arith;
  up = stays_up epoch s n t m stays phase moment;
}

pub is_storing : IsStoring thynvm_design
is_storing = record {
  access = access;
  store = makes;
  store_fails = λ b block s n m can failed framed. fails b block s n can m failed framed;
  load_fails = load_stays;
  stored_once = λ s b. refl;
  still_same = λ s. record { same_p = refl; blocks = refl };
  still_on = λ a b c first second. record { same_p = second.same_p ∙ first.same_p; blocks = second.blocks ∙ first.blocks };
  still_rests = still_rests;
  rests_less = λ sealed phase s rests. tt;
  stays_same = λ s n. record {
    control = stays_same s n;
    room = refl;
    tables = λ old. old;
    promotes = λ p. record { before = p; blocks = refl };
  };
  stays_on = on_stays;
  stays_p = λ s n t m stays. stays.control.same_p;
  stays_room = λ s n t m stays. stays.room;
  stays_sound = λ s n t m stays. stays.tables;
  stays = λ phase epoch s n t m moment free stays. stays_over phase epoch s n t m moment stays;
}
