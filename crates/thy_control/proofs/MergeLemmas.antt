-- The merge of a block's buffer into the frame of its page: every block after it, and the tables.
use Rattle.thy_table.specs.declared.place.Place.TheVariants.{Home, AlternatePage}
use Rattle.thy_table.specs.declared.block_entry.Pending.TheVariants.{Settled}
use Rattle.thy_table.specs.declared.block_entry.Version.{Version}
use Rattle.thy_table.specs.declared.block_entry.Version.TheVariants.{Out, Alt}
use Rattle.thy_table.specs.declared.page_entry.Site.{Site}
use Rattle.thy_table.specs.declared.page_entry.Site.TheVariants.{AtHome, AtAlternate}
use Rattle.thy_control.specs.CheckpointTables.{tables0, tables1, entry_lists, page_lists}
use Rattle.thy_control.specs.OverCalls.{cell_same, stays_same}
use Rattle.thy_control.specs.Stays.{CellStays, Stays}
use Rattle.thy_control.proofs.StayLemmas.{map-set_same, map-page, StaysTables, LeavesGuarded-step, Stays-step, penult-in_nvm, target-in_nvm}
use Rattle.std.proofs.Common.{◌≡◌, ◌≢◌, ℕ, ◌+◌, ◌<◌, Bool, true, false, ◌&&◌, refl, sym, ◌∙◌, ap, subst, inl, inr, arith, Option, Some, None, List, map, option_and_then, ◌%◌}
use Rattle.std.proofs.lemmas.Bool.{cases_eq, and_parts, false_from_ne_true}
use Rattle.std.proofs.lemmas.List.{length-set}
use Rattle.thy_block.specs.declared.block.Block.{Block}
use Rattle.thy_table.specs.declared.place.Place.{Place}
use Rattle.thy_block.specs.Device.{Device, zero_block, block_at}
use Rattle.thy_block.specs.Geometry.{memory_blocks}
use Rattle.thy_table.specs.Places.{IsPlace, number_of}
use Rattle.thy_block.specs.Store.{page_of}
use Rattle.thy_dram.specs.Contents.{Contents, written}
use Rattle.thy_table.specs.Listing.{Listing, IsListing, entry_at, passes, index_of, with_entry}
use Rattle.thy_table.proofs.FirstLemmas.{first_from-first, none-first_from}
use Rattle.thy_table.specs.declared.block_entry.BttEntry.{BttEntry}
use Rattle.thy_table.specs.declared.page_entry.PttEntry.{PttEntry}
use Rattle.thy_table.specs.declared.block_entry.Working.{Working}
use Rattle.thy_table.specs.declared.block_entry.Working.TheVariants.{NoWork, InBuffer}
use Rattle.thy_table.specs.BlockEntry.{new_entry}
use Rattle.thy_table.specs.PageEntry.{no_page, is_framed}
use Rattle.thy_table.specs.declared.cell.Cell.{Cell}
use Rattle.thy_table.specs.Cells.{Seat, placed, seat_of, frame_at, buffer_at, worked_at, last, work}
use Rattle.thy_table.specs.Sound.{IsSoundCell, IsWithin, Puts}
use Rattle.thy_table.specs.Checkpoint.{merged, with_dirty}
use Rattle.thy_table.specs.BetweenCheckpoints.{MergeKeeps, DirtyKeeps, Keeps}
use Rattle.thy_control.specs.Keys.{block_key, page_key}
use Rattle.thy_control.specs.State.{State, AreSoundTables, IsSized, cell_of, reads}
use Rattle.thy_control.specs.Overlay.{is_buffered, is_overlaid}
use Rattle.thy_control.specs.Seal.{block_is_framed}
use Rattle.thy_control.specs.Copies.{block_listed, block_in}
use Rattle.thy_control.specs.Merges.{next_merge, overlays, dram_merged, merged_block, after_merge}
use Rattle.thy_control.proofs.FindLemmas.{found_entry, stands_at, entry_for-there, by_number}
use Rattle.thy_control.proofs.StateLemmas.{block-cell_of, IsWithin-cell_of, index_of-index}
use Rattle.thy_control.proofs.CountLemmas.{count-set_less}
use Rattle.thy_control.proofs.KeepLemmas.{IsPlace-frame_of}
use Rattle.thy_control.proofs.TablesLemmas.{owner, Owns-cell_of}
use Rattle.thy_control.proofs.PageLemmas.{count-same, block_cleared, cell-cleared_same, cell-cleared_other, cell-page_same, cell-page_other, same_page, live-set}
use Rattle.thy_control.proofs.StepLemmas.{KeepsEach, Keeps-untouched, ReadsSame-of, reads_after, puts, untouched, holds-each, none-passes}
use Rattle.thy_control.proofs.LiveLemmas.{used-cleared}
use Rattle.thy_control.proofs.MarkLemmas.{buffered}
use Rattle.thy_control.proofs.CopyLemmas.{settled_by}

-- a page that was written to
abbrev dirty : PttEntry → PttEntry
dirty e = record e { dirty = true }

module _ (b : ℕ) (s : State) (framed : is_framed (cell_of s b).page ≡ true) (over : (cell_of s b).entry.work ≡ InBuffer) where
  pub listed-merge : index_of block_key b s.btt ≡ Some (cell_of s b).i
  listed-merge = index_of-index block_key new_entry s.btt b (λ e. let no : (cell_of s b).entry.work ≡ NoWork = ap (λ (x : BttEntry). x.work) e in cc)

  has_page : (cell_of s b).page ≢ no_page (page_of b)
  has_page e = let no : is_framed (cell_of s b).page ≡ false = ap is_framed e in cc

  pub listed_page-merge : index_of page_key (page_of b) s.ptt ≡ Some (cell_of s b).j
  listed_page-merge = index_of-index page_key no_page s.ptt (page_of b) has_page

  module _ (once : IsListing block_key s.btt) where
    abbrev cleared : State
    cleared = block_cleared s once b listed-merge

    pub cell-merged_same : cell_of (merged_block b s) b ≡ merged (cell_of s b)
    unfolding merged_block
    cell-merged_same =
        cell-page_same dirty (λ e. refl) cleared b listed_page-merge b refl
        ∙ ap (λ (c : Cell). record c { page = dirty c.page }) (cell-cleared_same s once b listed-merge)
        ∙ ap (λ (n : ℕ). record (cell_of s b) { i = 0; entry = new_entry n; page = dirty (cell_of s b).page }) (sym (block-cell_of s b))

    pub cell-merged_page : (k : ℕ) → k ≢ b → page_of k ≡ page_of b → cell_of (merged_block b s) k ≡ with_dirty (cell_of s k)
    unfolding merged_block
    cell-merged_page k ne q =
        cell-page_same dirty (λ e. refl) cleared b listed_page-merge k q
        ∙ ap (λ (c : Cell). record c { page = dirty c.page }) (cell-cleared_other s once b listed-merge k ne)

    pub cell-merged_other : (k : ℕ) → k ≢ b → page_of k ≢ page_of b → cell_of (merged_block b s) k ≡ cell_of s k
    unfolding merged_block
    cell-merged_other k ne o = cell-page_other dirty (λ e. refl) cleared b listed_page-merge k o ∙ cell-cleared_other s once b listed-merge k ne

    -- every block is as it was, but for the one that was merged, and that its page is dirty
    pub cell-merged : (P : Cell → Cell → Type 0) (k : ℕ) → P (cell_of s b) (merged (cell_of s b))
        → (k ≢ b → page_of k ≡ page_of b → P (cell_of s k) (with_dirty (cell_of s k))) → (k ≢ b → P (cell_of s k) (cell_of s k))
        → P (cell_of s k) (cell_of (merged_block b s) k)
    cell-merged P k here page other =
        by_number (λ j. P (cell_of s j) (cell_of (merged_block b s) j)) b k
        (subst (P (cell_of s b)) (sym cell-merged_same) here)
        (λ ne. elim (cases_eq (page_of k) (page_of b)) as
        (λ _. P (cell_of s k) (cell_of (merged_block b s) k)) [
          | inl q ↦ subst (P (cell_of s k)) (sym (cell-merged_page k ne q)) (page ne q)
          | inr o ↦ subst (P (cell_of s k)) (sym (cell-merged_other k ne o)) (other ne)
        ])

  module _ (t : AreSoundTables s) (l : b < memory_blocks s.p) (idle : s.under_way ≡ false) (merge : MergeKeeps) (others : DirtyKeeps) where
    within : IsWithin s.p (seat_of (cell_of s b))
    within = IsWithin-cell_of s b t l

    sound_b : IsSoundCell false (cell_of s b)
    sound_b = subst (λ (u : Bool). IsSoundCell u (cell_of s b)) idle (t.cells b l)

    work_is : work (cell_of s b) ≡ buffer_at (seat_of (cell_of s b))
    work_is = ap (λ (w : Working). worked_at w (is_framed (cell_of s b).page) (last (cell_of s b)) (cell_of s b).entry.v0
        (seat_of (cell_of s b))) over

    -- the entries stay sound, whatever is read
    sound-merged : (k : ℕ) → k < memory_blocks s.p → IsSoundCell s.under_way (cell_of (merged_block b s) k)
    sound-merged k h =
        let all : Place → Block = λ x. zero_block in
        cell-merged t.btt_once (λ c d. IsSoundCell s.under_way d) k
        (subst (λ (u : Bool). IsSoundCell u (merged (cell_of s b))) (sym idle)
        (merge s.p (cell_of s b) all all within sound_b framed over (record { here = refl; others = λ x is ne. refl })).sound)
        (λ ne q. (others s.under_way (cell_of s k) all all (t.cells k h)
        (record { penult_same = refl; target_same = refl; last_same = refl; work_same = refl; frame_same = refl })).sound)
        (λ ne. t.cells k h)

    pub AreSoundTables-merged : IsListing block_key (merged_block b s).btt → IsListing page_key (merged_block b s).ptt
        → AreSoundTables (merged_block b s)
    unfolding merged_block dram_merged
    AreSoundTables-merged btt_once ptt_once =
        let there = found_entry page_key no_page s.ptt (page_of b) (cell_of s b).j listed_page-merge in
        let block_there = found_entry block_key new_entry s.btt b (cell_of s b).i listed-merge in
        record {
          range = t.range;
          btt_size = length-set s.btt.entries (cell_of s b).i None ∙ t.btt_size;
          btt_numbers = t.btt_numbers;
          btt_once = btt_once;
          ptt_size = length-set s.ptt.entries (cell_of s b).j (Some (dirty (cell_of s b).page)) ∙ t.ptt_size;
          ptt_numbers = t.ptt_numbers;
          ptt_once = ptt_once;
          live_blocks = used-cleared s.btt (cell_of s b).i block_there.3 t.live_blocks;
          live_pages = live-set s.ptt (cell_of s b).j (dirty (cell_of s b).page) there.3
              (λ bare. let no : true ≡ false = sym framed ∙ bare in cc) t.live_pages;
          counts = t.counts;
          dram_size = length-set s.dram.blocks (number_of s.p (frame_at (seat_of (cell_of s b))))
              (block_at s.dram.blocks (number_of s.p (buffer_at (seat_of (cell_of s b))))) ∙ t.dram_size;
          cells = sound-merged;
        }

    -- every block is kept by a merge
    pub KeepsEach-merged : (n : Device) → IsSized s n → KeepsEach s n (merged_block b s) n
    unfolding merged_block dram_merged
    KeepsEach-merged n sized k h =
        let c : Cell = cell_of s b in
        let y : Place = frame_at (seat_of c) in
        let v : Block = reads s n (buffer_at (seat_of c)) in
        let there : IsPlace s.p y = IsPlace-frame_of s b t l in
        let owns : owner s y ≡ Some b = (Owns-cell_of s b).of_page has_page in
        let old : Place → Block = reads s n in
        let new : Place → Block = reads_after s n b y v t sized there owns in
        let put : Puts s.p y (old (work c)) old new =
        subst (λ (x : Place). Puts s.p y (old x) old new) (sym work_is) (puts s n b y v t sized there owns) in
        cell-merged t.btt_once (λ c d. Keeps s.under_way old new c d) k
        (subst (λ (u : Bool). Keeps u old new c (merged c)) (sym idle) (merge s.p c old new within sound_b framed over put))
        (λ ne q. others s.under_way (cell_of s k) old new (t.cells k h)
        (ReadsSame-of old new k (cell_of s k) (untouched s n b y v t sized there owns k h ne)
        (λ e. let no : is_framed (cell_of s k).page ≡ false = ap is_framed e in
        let yes : is_framed (cell_of s k).page ≡ true = ap is_framed (same_page s k b q) ∙ framed in cc)))
        (λ ne. Keeps-untouched s.under_way old new k (cell_of s k) (t.cells k h) (untouched s n b y v t sized there owns k h ne))

    -- a page is framed as it was
    pub framed_same : (k : ℕ) → block_is_framed (merged_block b s).ptt k ≡ block_is_framed s.ptt k
    framed_same k = cell-merged t.btt_once (λ c d. is_framed d.page ≡ is_framed c.page) k refl (λ ne q. refl) (λ ne. refl)

    -- after a merge one buffer less lies over a frame
    pub overlays-merged : overlays (merged_block b s) + 1 ≡ overlays s
    unfolding merged_block
    overlays-merged =
        let c : Cell = cell_of s b in
        let there = stands_at block_key new_entry s.btt b c.i listed-merge in
        let before : is_overlaid s.ptt c.entry ≡ true = ap (λ (w : Working). is_buffered w && block_is_framed s.ptt c.entry.block) over
        ∙ ap (λ (n : ℕ). block_is_framed s.ptt n) (block-cell_of s b) ∙ framed in
        let less = count-set_less (passes (is_overlaid s.ptt)) s.btt.entries c.i None None there.1
        refl
        (ap (passes (is_overlaid s.ptt)) there.0 ∙ before) in
        let same = count-same (passes (is_overlaid (merged_block b s).ptt)) (passes (is_overlaid s.ptt)) by_entry (merged_block b s).btt.entries in
        omega (arith, less, same)
      where
        by_entry : (o : Option BttEntry) → passes (is_overlaid (merged_block b s).ptt) o ≡ passes (is_overlaid s.ptt) o
        by_entry None = refl
        by_entry (Some e) = ap (λ (f : Bool). is_buffered e.work && f) (framed_same e.block)

-- what is known of the entry that is merged next
pub record IsOverlay (s : State) (b : ℕ) : Type 0 where
  pub inside : b < memory_blocks s.p
  pub framed : is_framed (cell_of s b).page ≡ true
  pub over : (cell_of s b).entry.work ≡ InBuffer

pub IsOverlay-entry : (s : State) → AreSoundTables s → (i : ℕ) → next_merge s ≡ Some i → IsOverlay s (block_listed i s)
IsOverlay-entry s t i h = by_entry (entry_at s.btt i) refl (first_from-first (passes (is_overlaid s.ptt)) None s.btt.entries 0 i h).here where
  by_entry : (o : Option BttEntry) → entry_at s.btt i ≡ o → passes (is_overlaid s.ptt) o ≡ true → IsOverlay s (block_listed i s)
  by_entry None e p = cc
  by_entry (Some x) e p =
      let there = entry_for-there block_key new_entry s.btt t.btt_once i x e in
      let both = and_parts (is_buffered x.work) (block_is_framed s.ptt x.block) p in
      subst (λ (b : ℕ). IsOverlay s b) (sym (ap block_in e)) (record {
        inside = omega (arith, there.2, t.btt_numbers);
        framed = both.1;
        over = ap (λ (y : BttEntry). y.work) there.1 ∙ buffered x.work both.0;
      })

-- the parts of the code's way
module _ {s w : State} (view : w ≡ s) (b : ℕ) {found : Cell} (is : found ≡ cell_of s b) where
  pub dram_is : {from to : Place} {x y : ℕ} {v : Block} {dram : Contents}
      → from ≡ buffer_at (seat_of found) → to ≡ frame_at (seat_of found)
      → x ≡ number_of w.p from → y ≡ number_of w.p to → v ≡ block_at w.dram.blocks x → dram ≡ written w.dram y v → dram ≡ dram_merged b s
  unfolding dram_merged
  dram_is from_is to_is x_is y_is v_is dram_e = cc

  pub merged_is : {btt : Listing BttEntry} {ptt : Listing PttEntry} {dram : Contents}
      → btt ≡ with_entry found.i None w.btt
      → ptt ≡ with_entry found.j (Some (record found.page { dirty = true })) w.ptt → dram ≡ dram_merged b s
      → record w { btt = btt; ptt = ptt; dram = dram } ≡ merged_block b s
  unfolding merged_block
  merged_is btt_e ptt_e dram_e = cc

-- what the next merge leaves, with any NVM
pub record MergesAll (s t : State) : Type 0 where
  pub left : overlays t + 1 ≡ overlays s
  pub each : (n : Device) → IsSized s n → KeepsEach s n t n

pub MergesAll-next : MergeKeeps → DirtyKeeps → (s : State) → AreSoundTables s → s.under_way ≡ false → 0 < overlays s
    → MergesAll s (after_merge (next_merge s) s)
MergesAll-next merge others s t idle some = by_next (next_merge s) refl where
  by_next : (o : Option ℕ) → next_merge s ≡ o → MergesAll s (after_merge o s)
  by_next None h =
      let none : overlays s ≡ 0 = none-passes (passes (is_overlaid s.ptt)) s.btt.entries None
      (λ k l. none-first_from (passes (is_overlaid s.ptt)) None s.btt.entries 0 h k (omega arith) l) in
      absurd (omega (arith, some, none))
  by_next (Some i) h =
      let o = IsOverlay-entry s t i h in
      record {
        left = overlays-merged (block_listed i s) s o.framed o.over t o.inside idle merge others;
        each = KeepsEach-merged (block_listed i s) s o.framed o.over t o.inside idle merge others;
      }

pub same_p-merge : (s : State) (o : Option ℕ) → (after_merge o s).p ≡ s.p
unfolding merged_block
same_p-merge s None = refl
same_p-merge s (Some i) = refl

-- a merge moves no place of a checkpoint
module _ (b : ℕ) (s : State) (framed : is_framed (cell_of s b).page ≡ true) (over : (cell_of s b).entry.work ≡ InBuffer)
    (t : AreSoundTables s) (l : b < memory_blocks s.p) (idle : s.under_way ≡ false) where
  -- the page of a block that is merged is not fresh
  fresh_not : (cell_of s b).page.fresh ≡ false
  fresh_not = false_from_ne_true (cell_of s b).page.fresh
      (λ e. let no : InBuffer ≡ NoWork = sym over ∙ (t.cells b l).fresh_idle e in cc)

  out1 : (cell_of s b).entry.v1 ≡ Out
  out1 = (t.cells b l).framed_out framed fresh_not

  out0 : (cell_of s b).entry.v0 ≡ Out
  out0 = (t.cells b l).one idle ∙ out1

  settled : (cell_of s b).entry.pend ≡ Settled
  settled =
      settled_by (cell_of s b).entry.pend
      (λ pending. (t.cells b l).pending_moves pending ((t.cells b l).one idle))

  map-cleared : (f : BttEntry → Option ℕ) → f (cell_of s b).entry ≡ None
      → map (option_and_then f) (with_entry (cell_of s b).i None s.btt).entries ≡ map (option_and_then f) s.btt.entries
  map-cleared f none =
      let there = stands_at block_key new_entry s.btt b (cell_of s b).i
      (listed-merge b s framed over) in
      map-set_same (option_and_then f) s.btt.entries (cell_of s b).i None None
      (sym none ∙ sym (ap (option_and_then f) there.0)) there.1

  -- the place of a block that is out does not depend on its entry's place
  placed_out : (v : Version) (site : Site) (x y : Seat) → v ≡ Out → x.j ≡ y.j → x.block ≡ y.block → placed Out site x ≡ placed v site y
  placed_out Out AtHome x y e j k = ap Home k
  placed_out Out AtAlternate x y e j k = ap (λ (n : ℕ). AlternatePage n (x.block % 64)) j ∙ ap (λ (n : ℕ). AlternatePage y.j (n % 64)) k
  placed_out Alt site x y e j k = cc

  stays_tables-merged : StaysTables s (merged_block b s)
  unfolding merged_block
  stays_tables-merged =
      let c : Cell = cell_of s b in
      let page = λ (f : PttEntry → Option ℕ) (same : f (dirty c.page) ≡ f c.page). map-page f s b (dirty c.page)
      (listed_page-merge b s framed over) same in
      record {
        same_p = refl;
        same_way = refl;
        tables0_same =
            ap (λ (x : List (Option ℕ)). record (tables0 (merged_block b s)) { btt = x })
            (map-cleared (λ e. entry_lists e.v0 e.block) (ap (λ (v : Version). entry_lists v c.entry.block) out0))
            ∙ ap (λ (x : List (Option ℕ)). record (tables0 s) { ptt = x }) (page (λ e. page_lists e.place e.page) refl);
        tables1_same =
            ap (λ (x : List (Option ℕ)). record (tables1 (merged_block b s)) { btt = x })
            (map-cleared (λ e. entry_lists e.v1 e.block) (ap (λ (v : Version). entry_lists v c.entry.block) out1))
            ∙ ap (λ (x : List (Option ℕ)). record (tables1 s) { ptt = x }) (page (λ e. page_lists e.target e.page) refl);
        lasts_same = refl;
        cells = λ k h. cell-merged b s framed over t.btt_once CellStays k
            (record {
              penult_same = placed_out c.entry.v0 c.page.place (seat_of (merged c)) (seat_of c) out0 refl refl;
              target_same = placed_out c.entry.v1 c.page.target (seat_of (merged c)) (seat_of c) out1 refl refl;
              settled = λ q. refl;
              busy_before = λ q. q;
              issued = omega arith;
            })
            (λ ne q. record { penult_same = refl; target_same = refl; settled = λ e. e; busy_before = λ e. e; issued = omega arith })
            (λ ne. cell_same (cell_of s k));
      }

  module _ (merge : MergeKeeps) (others : DirtyKeeps) (n : Device) (sized : IsSized s n) where
    pub Stays-merged : Stays s n (merged_block b s) n
    Stays-merged =
        let c : Cell = cell_of s b in
        let y : Place = frame_at (seat_of c) in
        let each : KeepsEach s n (merged_block b s) n = KeepsEach-merged b s framed over t l idle merge others n sized in
        Stays-step s y zero_block n (merged_block b s) (IsPlace-frame_of s b t l) sized stays_tables-merged (λ d. d)
        (record { blocks = refl; left = refl; picks = refl; queue_room = refl; left_room = refl; fits = refl; lent = refl; whole = refl })
        (LeavesGuarded-step s y zero_block n n b t (IsPlace-frame_of s b t l) ((Owns-cell_of s b).of_page (has_page b s framed over))
        (penult-in_nvm s b y refl) (λ q. target-in_nvm s b y refl) (inl refl))
        (λ k h. (each k h).reads.penult_same)
        (λ hold. record {
          holds = holds-each s n (merged_block b s) n stays_tables-merged.same_p each hold;
          last_same = λ k h. (each k h).reads.last_same;
        })

pub Stays-merge : MergeKeeps → DirtyKeeps → (s : State) → AreSoundTables s → s.under_way ≡ false → (o : Option ℕ) → next_merge s ≡ o
    → (n : Device) → IsSized s n → Stays s n (after_merge o s) n
Stays-merge merge others s t idle None h n sized = stays_same s n
Stays-merge merge others s t idle (Some i) h n sized =
    let o = IsOverlay-entry s t i h in
    Stays-merged (block_listed i s) s o.framed o.over t o.inside idle merge others n sized
