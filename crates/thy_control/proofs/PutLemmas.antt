-- A store of a block in its parts: what each call of it needs, and what it leaves.
use Rattle.std.proofs.Common.{◌≡◌, ◌≢◌, ℕ, ◌<◌, true, false, length, refl, sym, ◌∙◌, ap, subst, arith, Some, None}
use Rattle.std.proofs.lemmas.Bool.{both_ways}
use Rattle.std.proofs.lemmas.List.{length-set}
use Rattle.thy_block.specs.declared.block.Block.{Block}
use Rattle.thy_block.specs.declared.parameters.Parameters.{Parameters}
use Rattle.thy_table.specs.declared.place.Place.{Place}
use Rattle.thy_block.specs.Device.{Device, block_at, HasFailedToWrite}
use Rattle.thy_block.specs.Geometry.{memory_blocks}
use Rattle.thy_table.specs.Places.{number_of, in_dram}
use Rattle.thy_block.specs.Store.{page_of}
use Rattle.thy_block.proofs.RangeLemmas.{btt_least}
use Rattle.thy_dram.specs.Contents.{Contents}
use Rattle.thy_table.specs.Devices.{Devices, devices_of, written_at}
use Rattle.thy_table.proofs.MoveLemmas.{AreSized-written_at}
use Rattle.thy_table.specs.Listing.{Listing, IsListing, entry_at, lists, free_index, free_count}
use Rattle.thy_table.proofs.IndexLemmas.{count-none}
use Rattle.thy_table.specs.declared.block_entry.BttEntry.{BttEntry}
use Rattle.thy_table.specs.declared.block_entry.Pending.TheVariants.{Settled, FromBuffer}
use Rattle.thy_table.specs.declared.page_entry.PttEntry.{PttEntry}
use Rattle.thy_table.specs.BlockEntry.{new_entry}
use Rattle.thy_table.specs.PageEntry.{is_framed}
use Rattle.thy_table.specs.Counts.{Tally}
use Rattle.thy_table.specs.declared.cell.Cell.{Cell}
use Rattle.thy_table.specs.declared.cell.StoreRule.{StoreRule}
use Rattle.thy_table.specs.declared.cell.StoreRule.TheVariants.{ToFrame, PendingFirst}
use Rattle.thy_table.specs.Cells.{seat_of}
use Rattle.thy_table.specs.Sound.{IsWithin, IsSoundCell, IsWhole}
use Rattle.thy_table.specs.Rules.{store_rule, store_place, after_store}
use Rattle.thy_table.specs.Store.{put_by}
use Rattle.thy_control.specs.Find.{index_for}
use Rattle.thy_control.specs.Keys.{block_key, page_key}
use Rattle.thy_control.specs.StoredTables.{btt_with, btt_after, ptt_after, counts_after}
use Rattle.thy_control.specs.State.{State, AreCountsOf, AreSoundTables, IsSized, cell_of, reads}
use Rattle.thy_control.specs.Rules.{with_block, with_cell, rule_for, cell_before, devices_after, state_after, IsWholeState, FailsStore}
use Rattle.thy_control.proofs.CountsLemmas.{AreCountsOf-counted}
use Rattle.thy_control.proofs.FindLemmas.{index_for-inside}
use Rattle.thy_control.proofs.StateLemmas.{block-cell_of, page-cell_of, IsWithin-cell_of, first_is_pending, IsListed, IsListed-with_block, cell-with_block_same, sound-with_block, sound-with_cell, rule-with_block, frame_is_framed, btt_with-by}
use Rattle.thy_control.proofs.LiveLemmas.{used-stored}
use Rattle.thy_control.proofs.PageLemmas.{live-set}
use Rattle.thy_table.proofs.ListingLaws.{index_of-lists}

-- if entries are free, a lowest one is
pub has_free : (t : Listing BttEntry) → 0 < free_count t → free_index t ≡ None → ⊥
has_free t room none = omega (arith, count-none t.entries none)

-- the sizes of the block table with an entry more
length-btt_with : (rule : StoreRule) (b : ℕ) (t : Listing BttEntry) → length (btt_with rule b t).entries ≡ length t.entries
length-btt_with r b t =
    btt_with-by (λ u. length u.entries ≡ length t.entries) r b t refl
    (λ i h e. length-set t.entries i (Some (new_entry b)))

numbers-btt_with : (rule : StoreRule) (b : ℕ) (t : Listing BttEntry) → (btt_with rule b t).numbers ≡ t.numbers
numbers-btt_with r b t = btt_with-by (λ u. u.numbers ≡ t.numbers) r b t refl (λ i h e. refl)

length-btt_after : (rule : StoreRule) (c : Cell) (t : Listing BttEntry) → length (btt_after rule c t).entries ≡ length t.entries
length-btt_after ToFrame c t = refl
length-btt_after rule c t = length-set t.entries c.i (Some c.entry)

numbers-btt_after : (rule : StoreRule) (c : Cell) (t : Listing BttEntry) → (btt_after rule c t).numbers ≡ t.numbers
numbers-btt_after rule c t = grind arith

length-ptt_after : (rule : StoreRule) (c : Cell) (t : Listing PttEntry) → length (ptt_after rule c t).entries ≡ length t.entries
length-ptt_after ToFrame c t = length-set t.entries c.j (Some c.page)
length-ptt_after rule c t = refl

numbers-ptt_after : (rule : StoreRule) (c : Cell) (t : Listing PttEntry) → (ptt_after rule c t).numbers ≡ t.numbers
numbers-ptt_after rule c t = grind arith

counts-counts_after : (rule : StoreRule) (page : ℕ) (p : Parameters) (t : Tally) → AreCountsOf p t → AreCountsOf p (counts_after rule page t)
counts-counts_after PendingFirst page p t h = h
counts-counts_after rule page p t h = AreCountsOf-counted page p t h

pub lasts-counts_after : (rule : StoreRule) (page : ℕ) (t : Tally) → (counts_after rule page t).lasts ≡ t.lasts
lasts-counts_after rule page t = grind arith

-- the page table's entries after a store: as before, or a framed one
pages_after : (rule : StoreRule) (c : Cell) (t : Listing PttEntry) → (rule ≡ ToFrame → is_framed c.page ≡ true) → c.j < length t.entries
    → ((j : ℕ) (e : PttEntry) → entry_at t j ≡ Some e → is_framed e ≡ false → e.fresh ≡ true)
    → (j : ℕ) (e : PttEntry) → entry_at (ptt_after rule c t) j ≡ Some e → is_framed e ≡ false → e.fresh ≡ true
pages_after ToFrame c t framed inside before =
    live-set t c.j c.page inside (λ bare. absurd (both_ways _ bare (framed refl))) before
pages_after rule c t framed inside before = before

-- the cell that the code makes is the block's cell with its entry
pub cell_made : (s : State) (b i : ℕ) (rule : StoreRule) → rule ≡ rule_for b s → i ≡ index_for block_key new_entry b (btt_with rule b s.btt)
    → record (cell_of s b) { i = i } ≡ cell_before b s
unfolding cell_before
cell_made s b i rule is place =
    ap (λ (k : ℕ). record (cell_of s b) { i = k }) place ∙ sym (cell-with_block_same rule b s)
    ∙ ap (λ (r : StoreRule). cell_of (with_block r b s) b) is

-- the entries of the cell that a store begins with are within their tables, and the block is within memory
pub IsWithin-before : (s : State) (b : ℕ) → AreSoundTables s → b < memory_blocks s.p → IsWithin s.p (seat_of (cell_before b s))
unfolding cell_before
IsWithin-before s b t l =
    let rule : StoreRule = rule_for b s in
    let old = IsWithin-cell_of s b t l in
    let some : 0 < length (btt_with rule b s.btt).entries = omega (arith, btt_least s.p t.range, t.btt_size, length-btt_with rule b s.btt) in
    record {
      entry = omega (arith, t.btt_size, length-btt_with rule b s.btt, index_for-inside block_key new_entry (btt_with rule b s.btt) b some);
      page = old.page;
      block = omega (arith, block-cell_of (with_block rule b s) b);
    }

-- the entry that a rule changes is there
pub block_listed : (s : State) (b : ℕ) → 0 < free_count s.btt → rule_for b s ≢ ToFrame
    → lists block_key b (entry_at (btt_with (rule_for b s) b s.btt) (cell_before b s).i) ≡ true
unfolding cell_before
block_listed s b room not_frame =
    let t : State = with_block (rule_for b s) b s in
    index_of-lists block_key t.btt b (cell_of t b).i
    ((IsListed-with_block (rule_for b s) b s refl (has_free s.btt room)).block not_frame)

pub page_listed : (s : State) (b : ℕ) → 0 < free_count s.btt → rule_for b s ≡ ToFrame
    → lists page_key (page_of b) (entry_at s.ptt (cell_before b s).j) ≡ true
unfolding cell_before
page_listed s b room frame =
    let t : State = with_block (rule_for b s) b s in
    index_of-lists page_key t.ptt (page_of b) (cell_of t b).j
    ((IsListed-with_block (rule_for b s) b s refl (has_free s.btt room)).page frame)

-- the block that is put, by what both devices read as
pub put_by-reads : (rule : StoreRule) (block : Block) (s : State) (n : Device) (c : Cell)
    → put_by rule block (λ place. block_at s.dram.blocks (number_of s.p place)) c ≡ put_by rule block (reads s n) c
put_by-reads ToFrame block s n c = refl
put_by-reads rule block s n c = refl

-- a rule leaves the numbers of a cell
pub after-i : (r : StoreRule) (c : Cell) → (after_store r c).i ≡ c.i
after-i r c = grind arith

pub after-j : (r : StoreRule) (c : Cell) → (after_store r c).j ≡ c.j
after-j r c = grind arith

pub after-block : (r : StoreRule) (c : Cell) → (after_store r c).entry.block ≡ c.entry.block
after-block r c = grind arith

pub after-page : (r : StoreRule) (c : Cell) → (after_store r c).page.page ≡ c.page.page
after-page r c = grind arith

framed-after : (r : StoreRule) (c : Cell) → is_framed (after_store r c).page ≡ is_framed c.page
framed-after r c = grind arith

-- the state after a store has sound tables
pub AreSoundTables-after : (b : ℕ) (block : Block) (s : State) (n : Device) → AreSoundTables s → IsSized s n → IsWholeState s
    → b < memory_blocks s.p → 0 < free_count s.btt
    → IsListing block_key (state_after b block s n).btt → IsListing page_key (state_after b block s n).ptt
    → AreSoundTables (state_after b block s n)
unfolding state_after cell_before devices_after
AreSoundTables-after b block s n t sized whole l room btt_once ptt_once =
    let rule : StoreRule = rule_for b s in
    let u : State = with_block rule b s in
    let same : store_rule (cell_of u b) ≡ rule = rule-with_block rule b s in
    let listed : IsListed (store_rule (cell_of u b)) b u =
    subst (λ (r : StoreRule). IsListed r b u) (sym same) (IsListed-with_block rule b s refl (has_free s.btt room)) in
    let whole_b : IsWhole (cell_of u b).page = whole.whole b l in
    let sound = λ (m : ℕ) (k : m < memory_blocks s.p). sound-with_block rule b s m (t.cells m k) in
    let after : Cell = after_store rule (cell_of u b) in
    let place : Place = store_place rule (cell_of u b) in
    let put : Block = put_by rule block (reads s n) (cell_of u b) in
    let sizes = AreSized-written_at s.p (devices_of n s.dram) place put (record { nvm = sized.nvm; dram = t.dram_size }) in
    let entry_there : (cell_of u b).i < length (btt_with rule b s.btt).entries =
    omega (arith, (IsWithin-before s b t l).entry, t.btt_size, length-btt_with rule b s.btt) in
    let page_there : after.j < length s.ptt.entries = omega (arith, (IsWithin-cell_of s b t l).page, t.ptt_size, after-j rule (cell_of u b)) in
    record {
      range = t.range;
      btt_size = length-btt_after rule after (btt_with rule b s.btt) ∙ length-btt_with rule b s.btt ∙ t.btt_size;
      btt_numbers = numbers-btt_after rule after (btt_with rule b s.btt) ∙ numbers-btt_with rule b s.btt ∙ t.btt_numbers;
      btt_once = btt_once;
      live_blocks = used-stored rule (cell_of u b) b s.btt t.live_blocks refl entry_there
          (λ first. (sound b l).pending_moves (λ e. let no : FromBuffer ≡ Settled = sym (first_is_pending (cell_of u b) (same ∙ first)) ∙ e in cc));
      ptt_size = length-ptt_after rule after s.ptt ∙ t.ptt_size;
      ptt_numbers = numbers-ptt_after rule after s.ptt ∙ t.ptt_numbers;
      ptt_once = ptt_once;
      live_pages = pages_after rule after s.ptt
          (λ frame. framed-after rule (cell_of u b) ∙ frame_is_framed (cell_of u b) (same ∙ frame)) page_there t.live_pages;
      counts = counts-counts_after rule (page_of b) s.p s.counts t.counts;
      dram_size = sizes.dram;
      cells = λ m k. subst (λ (r : StoreRule). IsSoundCell s.under_way (cell_of (with_cell r (after_store r (cell_of u b)) u) m)) same
          (sound-with_cell b u m listed whole_b (sound b l) (sound m k));
    }

-- the parts of the code's way: the state as its fields have it, the cell that was found, the rule, and the place of
-- the entry
pub record Way (s v : State) (b : ℕ) (found : Cell) (r : StoreRule) (i : ℕ) : Type 0 where
  pub view : v ≡ s
  pub found_is : found ≡ cell_of s b
  pub rule_is : r ≡ store_rule found
  pub entry_is : i ≡ index_for block_key new_entry b (btt_with r b v.btt)

module _ {s v : State} {b : ℕ} {found : Cell} {r : StoreRule} {i : ℕ} where
  pub way_of : v ≡ s → found ≡ cell_of s b → r ≡ store_rule found
      → i ≡ index_for block_key new_entry b (btt_with r b v.btt) → Way s v b found r i
  way_of view found_is rule_is entry_is =
      record { view = view; found_is = found_is; rule_is = rule_is; entry_is = entry_is }

  module _ (w : Way s v b found r i) where
    pub way_rule : r ≡ rule_for b s
    unfolding rule_for
    way_rule = w.rule_is ∙ ap store_rule w.found_is

    pub way_table : {btt : Listing BttEntry} → btt ≡ btt_with r b v.btt
        → btt ≡ btt_with (rule_for b s) b s.btt
    way_table is =
        is ∙ ap (λ (q : StoreRule). btt_with q b v.btt) way_rule
        ∙ ap (λ (t : State). btt_with (rule_for b s) b t.btt) w.view

    pub way_cell : record found { i = i } ≡ cell_before b s
    way_cell =
        ap (λ (c : Cell). record c { i = i }) w.found_is
        ∙ cell_made s b i (rule_for b s) refl
        (w.entry_is ∙ ap (λ (t : Listing BttEntry). index_for block_key new_entry b t)
        (way_table refl))

    pub way_place : store_place r (record found { i = i }) ≡ store_place (rule_for b s) (cell_before b s)
    way_place = ap (λ (q : StoreRule). store_place q (record found { i = i })) way_rule ∙ ap (store_place (rule_for b s)) way_cell

    pub way_put : (block : Block) (n : Device)
        → put_by r block (λ place. block_at v.dram.blocks (number_of v.p place)) (record found { i = i })
        ≡ put_by (rule_for b s) block (reads s n) (cell_before b s)
    way_put block n =
        put_by-reads r block v n (record found { i = i })
        ∙ ap (λ (t : State). put_by r block (reads t n) (record found { i = i })) w.view
        ∙ ap (λ (q : StoreRule). put_by q block (reads s n) (record found { i = i })) way_rule
        ∙ ap (put_by (rule_for b s) block (reads s n)) way_cell

    pub way_after : {after : Cell} → after ≡ after_store r (record found { i = i })
        → after ≡ after_store (rule_for b s) (cell_before b s)
    way_after is =
        is ∙ ap (λ (q : StoreRule). after_store q (record found { i = i })) way_rule
        ∙ ap (after_store (rule_for b s)) way_cell

    -- the write of the devices, done or failed
    module _ (block : Block) {put : Block} {place : Place}
        (place_is : place ≡ store_place r (record found { i = i }))
        (put_is : put ≡ put_by r block (λ x. block_at v.dram.blocks (number_of v.p x))
        (record found { i = i })) where
      pub way_devices : (n : Device) {d : Devices}
          → d ≡ written_at v.p place put (devices_of n v.dram) → d ≡ devices_after b block s n
      unfolding devices_after
      way_devices n is =
          is ∙ ap (λ (t : State). written_at t.p place put (devices_of n t.dram)) w.view
          ∙ ap (λ (x : Place). written_at s.p x put (devices_of n s.dram)) (place_is ∙ way_place)
          ∙ ap (λ (y : Block). written_at s.p (store_place (rule_for b s) (cell_before b s)) y (devices_of n s.dram)) (put_is ∙ way_put block n)

      pub way_fails : {m n : Device} → in_dram place ≡ false
          → HasFailedToWrite (number_of v.p place) put m n → FailsStore b block s m n
      way_fails {m} {n} side failed =
          let number : number_of v.p place ≡ number_of s.p
          (store_place (rule_for b s) (cell_before b s))
          = ap (λ (t : State). number_of t.p place) w.view
          ∙ ap (number_of s.p) (place_is ∙ way_place) in
          record {
            in_nvm = ap in_dram (sym (place_is ∙ way_place)) ∙ side;
            failed = subst (λ (x : ℕ). HasFailedToWrite x
                (put_by (rule_for b s) block (reads s m) (cell_before b s)) m n) number
                (subst (λ (y : Block). HasFailedToWrite (number_of v.p place) y m n)
                (put_is ∙ way_put block m) failed);
          }

    -- the whole state after the store
    pub way_state : (block : Block) (n : Device) {d : Devices} {after : Cell}
        {btt now : Listing BttEntry} {ptt : Listing PttEntry} {counts : Tally}
        → after ≡ after_store r (record found { i = i }) → btt ≡ btt_with r b v.btt
        → now ≡ btt_after r after btt → ptt ≡ ptt_after r after v.ptt
        → counts ≡ counts_after r (page_of b) v.counts → d ≡ devices_after b block s n
        → record v { btt = now; ptt = ptt; counts = counts; dram = d.dram } ≡ state_after b
        block s n
    unfolding state_after
    way_state block n after_is btt_is now_is ptt_is counts_is d_is =
        let view = w.view in
        let rule = way_rule in
        let cell = way_after after_is in
        let table = way_table btt_is in
        cc

-- if it failed, the state is as it was
pub way_failed : {s v : State} {dram : Contents} → v ≡ s → dram ≡ v.dram
    → record v { dram = dram } ≡ s
way_failed {v = v} view e = ap (λ (d : Contents). record v { dram = d }) e ∙ view

pub sound_dram : {s : State} {dram : Contents} → dram ≡ s.dram → AreSoundTables s
    → AreSoundTables (record s { dram = dram })
sound_dram {s} e t = subst (λ (d : Contents). AreSoundTables (record s { dram = d })) (sym e) t

-- the code's entries may be put in their places
pub may_set_block : (s : State) (b : ℕ) {after : Cell} {btt : Listing BttEntry}
    → 0 < free_count s.btt
    → after ≡ after_store (rule_for b s) (cell_before b s) → btt ≡ btt_with (rule_for b s) b s.btt → rule_for b s ≢ ToFrame
    → lists block_key after.entry.block (entry_at btt after.i) ≡ true
unfolding cell_before
may_set_block s b {after} {btt} room e t not_frame =
    let block : after.entry.block ≡ b = ap (λ (c : Cell). c.entry.block) e ∙ after-block (rule_for b s) (cell_before b s)
    ∙ block-cell_of (with_block (rule_for b s) b s) b in
    let place : after.i ≡ (cell_before b s).i = ap (λ (c : Cell). c.i) e ∙ after-i (rule_for b s) (cell_before b s) in
    ap (λ (n : ℕ). lists block_key n (entry_at btt after.i)) block ∙ ap (λ (i : ℕ). lists block_key b (entry_at btt i)) place
    ∙ ap (λ (u : Listing BttEntry). lists block_key b (entry_at u (cell_before b s).i)) t ∙ block_listed s b room not_frame

pub may_set_page : (s : State) (b : ℕ) {after : Cell} {ptt : Listing PttEntry}
    → 0 < free_count s.btt
    → after ≡ after_store (rule_for b s) (cell_before b s) → ptt ≡ s.ptt → rule_for b s ≡ ToFrame
    → lists page_key after.page.page (entry_at ptt after.j) ≡ true
unfolding cell_before
may_set_page s b {after} {ptt} room e t frame =
    let page : after.page.page ≡ page_of b =
    ap (λ (c : Cell). c.page.page) e ∙ after-page (rule_for b s) (cell_before b s) ∙ page-cell_of (with_block (rule_for b s) b s) b in
    let place : after.j ≡ (cell_before b s).j = ap (λ (c : Cell). c.j) e ∙ after-j (rule_for b s) (cell_before b s) in
    ap (λ (n : ℕ). lists page_key n (entry_at ptt after.j)) page ∙ ap (λ (j : ℕ). lists page_key (page_of b) (entry_at ptt j)) place
    ∙ ap (λ (u : Listing PttEntry). lists page_key (page_of b) (entry_at u (cell_before b s).j)) t ∙ page_listed s b room frame
