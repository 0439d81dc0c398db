-- A merge and a promotion keep every version, and the checkpoints.
use Rattle.std.proofs.Common.{◌≡◌, ℕ, zero, suc, ◌+◌, ◌<◌, ◌≤◌, ◌&&◌, nat_lt, if◌then◌else◌, Bool, true, false, Option, Some, None, refl, sym, ◌∙◌, ap, subst, arith}
use Rattle.std.proofs.lemmas.Bool.{ltb-true}
use Rattle.thy_block.specs.Device.{Device}
use Rattle.thy_block.specs.Store.{page_of}
use Rattle.thy_table.specs.Places.{image_blocks}
use Rattle.thy_table.specs.Listing.{entry_at, free_count, lists, mapped, passes}
use Rattle.thy_table.proofs.ListingLaws.{IsListing-set, IsListing-with, index_of-lists}
use Rattle.thy_table.specs.declared.block_entry.BttEntry.{BttEntry}
use Rattle.thy_table.specs.declared.block_entry.Working.{Working}
use Rattle.thy_table.specs.declared.page_entry.PttEntry.{PttEntry}
use Rattle.thy_table.specs.BlockEntry.{new_entry}
use Rattle.thy_table.specs.declared.cell.Cell.{Cell}
use Rattle.thy_table.specs.Checkpoint.{merged}
use Rattle.thy_control.specs.Copies.{block_listed}
use Rattle.thy_control.specs.Frees.{HasNoWork, settled}
use Rattle.thy_control.specs.Holding.{promoted, waiting}
use Rattle.thy_control.specs.Keys.{block_key, page_key}
use Rattle.thy_control.specs.Merges.{next_merge, overlays, merged_block, after_merge}
use Rattle.thy_control.specs.Overlay.{is_buffered, is_overlaid as lies_over}
use Rattle.thy_control.specs.Promotions.{next_promotion, unfilled, block_to_fill, block_filled, after_promotion}
use Rattle.thy_control.specs.Seal.{block_is_framed}
use Rattle.thy_control.specs.State.{State, AreSoundTables, IsSized, cell_of}
use Rattle.thy_control.specs.Stays.{Stays as StaysControl}
use Rattle.thy_control.specs.Versions.{KeepsAll}
use Rattle.thy_control.proofs.StateLemmas.{page-cell_of}
use Rattle.thy_control.proofs.FillLemmas.{IsFill, IsFill-entry, listed-fresh, AreSoundTables-filled, KeepsNext, KeepsNext-promotion}
use Rattle.thy_control.proofs.FindLemmas.{found_entry}
use Rattle.thy_control.proofs.MarkLemmas.{counted-some}
use Rattle.thy_control.proofs.MergeLemmas.{listed-merge, listed_page-merge, IsOverlay, IsOverlay-entry, AreSoundTables-merged, MergesAll, MergesAll-next, same_p-merge, Stays-merge}
use Rattle.thy_control.proofs.StepLemmas.{KeepsAll-each}
use Rattle.thy_computer.specs.Dram.{WritesDram}
use Rattle.thy_checkpoint.specs.Items.{Phase, Resting, Making, Made, Applying}
use Rattle.thy_scheme_parts.specs.Moments.{IsMoment, Carries}
use Rattle.thy_scheme_parts.specs.Paging.{WritesOne, IsPaging}
use Rattle.thy_thynvm_parts.specs.Design.{merged as merged_idle, is_overlaid, is_promoting, StandsAt, items_thynvm, thynvm_design}
use Rattle.thy_thynvm_parts.proofs.DesignLemmas.{Keeping, carried, carried_on, counts_on, makes_on}
use Rattle.thy_thynvm_parts.proofs.LeftLemmas.{copies-most, writes-most}
use Rattle.thy_thynvm_parts.proofs.MergeLemmas.{IsMerged, IsMerged-next, WritesDram-merged, way-merged, IsPromoted, IsPromoted-next, WritesDram-filled}
use Rattle.thy_thynvm_parts.proofs.RuleLemmas.{merge_keeps, dirty_keeps, promotion_keeps, promotion_keeps_others}
use Rattle.thy_thynvm_parts.proofs.StoreLemmas.{rest_by, work_same, copied_stays}

-- without work no buffer lies over a frame
overlays_none : (s : State) → HasNoWork s → 0 < overlays s → ⊥
overlays_none s none some =
    let f = counted-some (passes (lies_over s.ptt)) None s.btt.entries some in
    by_entry f.0 (entry_at s.btt f.0) refl f.2
  where
    by_entry : (i : ℕ) (o : Option BttEntry) → entry_at s.btt i ≡ o → passes (lies_over s.ptt) o ≡ true → ⊥
    by_entry i None was h = cc
    by_entry i (Some e) was h =
        let idle = none.no_work i e was in
        let bare : passes (lies_over s.ptt) (Some e) ≡ false = ap (λ (w : Working). is_buffered w && block_is_framed s.ptt e.block) idle in
        let both : true ≡ false = sym h ∙ bare in cc

-- ---- a merge

-- the tables are sound after it
merged_sound : (s : State) → AreSoundTables s → s.under_way ≡ false → (i : ℕ) → next_merge s ≡ Some i
    → AreSoundTables (after_merge (Some i) s)
unfolding merged_block
merged_sound s t idle i found =
    let b : ℕ = block_listed i s in
    let c : Cell = cell_of s b in
    let o : IsOverlay s b = IsOverlay-entry s t i found in
    let inside = (found_entry block_key new_entry s.btt b c.i (listed-merge b s o.framed o.over)).3 in
    let page_listed = listed_page-merge b s o.framed o.over in
    AreSoundTables-merged b s o.framed o.over t o.inside idle merge_keeps dirty_keeps
    (IsListing-with block_key s.btt c.i None t.btt_once inside (λ k h. let no : false ≡ true = h in cc))
    (IsListing-set page_key s.ptt t.ptt_once c.j (merged c).page
    (ap (λ (k : ℕ). lists page_key k (entry_at s.ptt c.j)) (page-cell_of s b) ∙ index_of-lists page_key s.ptt (page_of b) c.j page_listed))

module _ (epoch : ℕ) (s : State) (n : Device) (moment : IsMoment thynvm_design Resting epoch s n) (some : is_overlaid s ≡ true) where
  abbrev t : State
  t = after_merge (next_merge s) s

  covered : 0 < overlays s
  covered = ltb-true 0 (overlays s) some

  idle : s.under_way ≡ false
  idle = moment.stands.way_is

  sized : IsSized s n
  sized = record { nvm = moment.sized }

  all : MergesAll s t
  all = MergesAll-next merge_keeps dirty_keeps s moment.sound idle covered

  stays : StaysControl s n t n
  stays = Stays-merge merge_keeps dirty_keeps s moment.sound idle (next_merge s) refl n sized

  made : IsMerged s t
  made = IsMerged-next s moment.sound (next_merge s) refl

  kept : KeepsAll s n t n
  kept = KeepsAll-each s n t n (same_p-merge s (next_merge s)) (all.each n sized)

  by_next : (o : Option ℕ) → next_merge s ≡ o → overlays (after_merge o s) + 1 ≡ overlays s
      → AreSoundTables (after_merge o s) × WritesDram n n s.dram (after_merge o s).dram
  by_next None found less = absurd (omega (arith, less))
  by_next (Some i) found less = (merged_sound s moment.sound idle i found, WritesDram-merged s n i)

  now : AreSoundTables t × WritesDram n n s.dram t.dram
  now = by_next (next_merge s) refl all.left

  keeping : Keeping s n t n
  keeping = record {
    same_p = stays.same_p;
    room = made.room;
    versions = record {
      penult_same = kept.checkpoints.penult_same;
      last_same = kept.checkpoints.last_same;
      work_same = kept.work.work_same;
      holds = kept.holds moment.holds;
    };
    tables0_same = stays.tables0_same;
    tables1_same = stays.tables1_same;
    lasts_same = stays.lasts_same;
    free = made.free;
    owed = made.owed;
    pages = record {
      whole = λ h. ap (λ (x : ℕ). nat_lt 0 x) made.promoted_same ∙ h;
      merges = let less = all.left in omega (arith, less);
      promotions = let same = made.unfilled_same in omega (arith, same);
    };
    work = λ none. absurd (overlays_none s none covered);
  }

  merge_carries : Carries thynvm_design epoch Resting s n Resting t n
  merge_carries =
      carried epoch s n t n keeping Resting Resting
      (record {
        sound = now.0;
        sized = moment.sized ∙ ap image_blocks (sym stays.same_p);
        stands = record {
          tables = now.0;
          way_is = way-merged s (next_merge s) ∙ idle;
          promotes = λ p.
              let before : is_promoting s ≡ true = ap (λ (x : ℕ). nat_lt 0 x) (sym made.promoted_same) ∙ p in
              absurd (overlays_none s (moment.stands.promotes before) covered);
        };
        holds = kept.holds moment.holds;
      })
      (λ k h. h) (counts_on s t keeping.same_p keeping.lasts_same Resting)
      (makes_on epoch s t keeping.same_p keeping.tables1_same keeping.lasts_same Resting)
      (λ r. let free = made.free in omega (arith, r, free))

  merges : WritesOne thynvm_design Resting epoch s n t × (overlays t + 1 ≡ overlays s)
  merges = (
    record {
      carries = merge_carries;
      writes = now.1;
      rest = rest_by s t stays.same_p stays.tables1_same stays.lasts_same;
      left = λ from. omega (arith, copies-most s n t n moment.sound now.0 stays, writes-most s n t n moment.sound now.0 stays);
    },
    all.left,
  )

-- ---- a promotion

filled_sound : (s : State) (n : Device) → AreSoundTables s → IsSized s n → (j : ℕ) → next_promotion s ≡ Some j
    → AreSoundTables (after_promotion (Some j) s n)
unfolding block_filled
filled_sound s n t sized j found =
    let b : ℕ = block_to_fill j s in
    let c : Cell = cell_of s b in
    let f : IsFill s b = IsFill-entry s t j found in
    let page : PttEntry = record c.page { filled = c.page.filled + 1 } in
    AreSoundTables-filled b s f.fresh n t sized f.inside f.due promotion_keeps promotion_keeps_others
    (IsListing-set page_key s.ptt t.ptt_once c.j page
    (ap (λ (k : ℕ). lists page_key k (entry_at s.ptt c.j)) (page-cell_of s b) ∙ index_of-lists page_key s.ptt (page_of b) c.j (listed-fresh b s f.fresh)))

module _ (phase : Phase) (epoch : ℕ) (s : State) (n : Device) (moment : IsMoment thynvm_design phase epoch s n)
    (some : is_promoting s ≡ true) where
  abbrev u : State
  u = after_promotion (next_promotion s) s n

  sized_now : IsSized s n
  sized_now = record { nvm = moment.sized }

  fills : KeepsNext s n u n
  fills = KeepsNext-promotion promotion_keeps promotion_keeps_others s n moment.sound sized_now (ltb-true 0 (promoted s.ptt) some)

  one : IsPromoted s u
  one = IsPromoted-next s n (next_promotion s)

  by_fill : (o : Option ℕ) → next_promotion s ≡ o → unfilled (after_promotion o s n) + 1 ≡ unfilled s
      → AreSoundTables (after_promotion o s n) × WritesDram n n s.dram (after_promotion o s n).dram
  by_fill None found less = absurd (omega (arith, less))
  by_fill (Some j) found less = (filled_sound s n moment.sound sized_now j found, WritesDram-filled s n j)

  sound_now : AreSoundTables u × WritesDram n n s.dram u.dram
  sound_now = by_fill (next_promotion s) refl fills.left

  -- no block has work, whatever the phase
  none_works : (p : Phase) → items_thynvm.stands p s → HasNoWork s
  none_works Made h = h.at.promotes some
  none_works (Applying from) h = absurd h
  none_works p h = h.promotes some

  none_now : HasNoWork u
  none_now = work_same s u one.blocks (none_works phase moment.stands)

  bare : overlays u ≤ overlays s
  bare = by_some (overlays u) (overlays_none u none_now) where
    by_some : (x : ℕ) → (0 < x → ⊥) → x ≤ overlays s
    by_some zero h = omega arith
    by_some (suc x) h = absurd (h (omega arith))

  filling : Keeping s n u n
  filling = record {
    same_p = one.same_p;
    room = one.room;
    versions = record {
      penult_same = fills.checkpoints.penult_same;
      last_same = fills.checkpoints.last_same;
      work_same = (fills.held moment.holds).work.work_same;
      holds = (fills.held moment.holds).holds;
    };
    tables0_same = fills.stays.tables0_same;
    tables1_same = fills.stays.tables1_same;
    lasts_same = fills.stays.lasts_same;
    free = omega (arith, ap free_count one.blocks);
    owed = omega (arith, ap waiting one.blocks);
    pages = record {
      whole = λ h. let both : true ≡ false = sym some ∙ h in cc;
      merges = bare;
      promotions = let less = fills.left in omega (arith, less);
    };
    work = λ none. none_now;
  }

  at_now : (way : Bool) → StandsAt way s → StandsAt way u
  at_now way at = record { tables = sound_now.0; way_is = fills.stays.same_way ∙ at.way_is; promotes = λ p. none_now }

  stands_now : (p : Phase) → items_thynvm.stands p s → items_thynvm.stands p u
  stands_now Resting h = at_now false h
  stands_now (Making from) h = at_now true h
  stands_now Made h = record { at = at_now true h.at; copied = copied_stays s n u n fills.stays h.copied }
  stands_now (Applying from) h = h

  fill_carries : Carries thynvm_design epoch phase s n phase u n
  fill_carries =
      carried_on epoch s n u n filling (ap (mapped settled) one.blocks) phase
      (record {
        sound = sound_now.0;
        sized = moment.sized ∙ ap image_blocks (sym one.same_p);
        stands = stands_now phase moment.stands;
        holds = (fills.held moment.holds).holds;
      })

  promotes : WritesOne thynvm_design phase epoch s n u × (unfilled u + 1 ≡ unfilled s)
  promotes = (
    record {
      carries = fill_carries;
      writes = sound_now.1;
      rest = rest_by s u one.same_p fills.stays.tables1_same fills.stays.lasts_same;
      left = λ from. omega (arith, copies-most s n u n moment.sound sound_now.0 fills.stays, writes-most s n u n moment.sound sound_now.0 fills.stays);
    },
    fills.left,
  )

pub is_paging : IsPaging thynvm_design
is_paging = record {
  merges = λ epoch s n moment some.
      let is : merged_idle s ≡ after_merge (next_merge s) s =
      ap (λ (w : Bool). if w then s else after_merge (next_merge s) s) moment.stands.way_is in
      subst (λ (t : State). WritesOne thynvm_design Resting epoch s n t × (overlays t + 1 ≡ overlays s)) (sym is) (merges epoch s n moment some);
  promotes = promotes;
}
