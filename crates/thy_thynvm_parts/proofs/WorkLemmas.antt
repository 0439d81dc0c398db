-- What a load gives of a controller that a boot has filled: the blocks of the image, at their places by its tables.
use Rattle.std.proofs.Common.{◌≡◌, ℕ, [], ◌<◌, Bool, true, false, if◌then◌else◌, length, refl, sym, ◌∙◌, ap, subst, arith, Option, Some, None}
use Rattle.std.specs.List.{range_with_len}
use Rattle.std.proofs.lemmas.List.{length-map, get_or-map, ext_get_or}
use Rattle.std.proofs.lemmas.List.FromFn.{length-range_with_len, get_or-map-range_with_len}
use Rattle.thy_block.specs.declared.block.Block.{Block}
use Rattle.thy_table.specs.declared.place.Place.{Place}
use Rattle.thy_block.specs.Device.{Device, block_at, newest, zero_block}
use Rattle.thy_block.specs.Geometry.{memory_blocks}
use Rattle.thy_table.specs.Places.{number_of}
use Rattle.thy_block.specs.Store.{page_of}
use Rattle.thy_block.proofs.DeviceLemmas.{newest-empty}
use Rattle.thy_layout.specs.Layout.{blocks_at}
use Rattle.thy_record.specs.Images.{memory_numbers}
use Rattle.thy_record.specs.Tables.{place_of as place_in}
use Rattle.thy_table.specs.Listing.{index_of}
use Rattle.thy_table.specs.declared.block_entry.BttEntry.{BttEntry}
use Rattle.thy_table.specs.declared.block_entry.Pending.TheVariants.{Settled}
use Rattle.thy_table.specs.declared.block_entry.Working.{Working}
use Rattle.thy_table.specs.declared.block_entry.Working.TheVariants.{NoWork}
use Rattle.thy_table.specs.declared.page_entry.PttEntry.{PttEntry}
use Rattle.thy_table.specs.BlockEntry.{new_entry}
use Rattle.thy_table.specs.PageEntry.{no_page, is_framed}
use Rattle.thy_table.specs.declared.cell.Cell.{Cell}
use Rattle.thy_table.specs.Cells.{seat_of, frame_at, worked_at, penult, last, work}
use Rattle.thy_table.specs.Sound.{Holds}
use Rattle.thy_control.specs.Find.{entry_for}
use Rattle.thy_control.specs.Keys.{block_key, page_key}
use Rattle.thy_control.specs.State.{State, AreSoundTables, cell_of, work_of, reads}
use Rattle.thy_control.specs.Boot.{IsBooting}
use Rattle.thy_control.specs.CheckpointTables.{tables0, CommittedTables}
use Rattle.thy_control.specs.Stays.{HoldAll}
use Rattle.thy_control.proofs.FindLemmas.{found_entry, entry_for-some, entry_for-none}
use Rattle.thy_control.proofs.KeepLemmas.{placed-in_nvm}
use Rattle.thy_thynvm_parts.specs.Filling.{loads}

-- entries with nothing under way
record IsStill (e : BttEntry) : Type 0 where
  pub pend : e.pend ≡ Settled
  pub work : e.work ≡ NoWork
  pub same : e.v1 ≡ e.v0

record IsStillPage (e : PttEntry) : Type 0 where
  pub dirty : e.dirty ≡ false
  pub fresh : e.fresh ≡ false
  pub busy : e.busy ≡ false
  pub same : e.target ≡ e.place

still_block : (c : State) → IsBooting c → (b : ℕ) → IsStill (cell_of c b).entry
still_block c boot b = by_place (index_of block_key b c.btt) refl where
  by_place : (o : Option ℕ) → index_of block_key b c.btt ≡ o → IsStill (entry_for block_key new_entry b c.btt)
  by_place None h = subst (λ (e : BttEntry). IsStill e) (sym (entry_for-none block_key new_entry c.btt b h))
      (record { pend = refl; work = refl; same = refl })
  by_place (Some i) h =
      let f = found_entry block_key new_entry c.btt b i h in
      subst (λ (e : BttEntry). IsStill e) (sym (entry_for-some block_key new_entry c.btt b i f.0 h f.1 ∙ boot.blocks i f.0 f.1))
      (record { pend = refl; work = refl; same = refl })

still_page : (c : State) → IsBooting c → (n : ℕ) → IsStillPage (entry_for page_key no_page n c.ptt)
still_page c boot n = by_place (index_of page_key n c.ptt) refl where
  by_place : (o : Option ℕ) → index_of page_key n c.ptt ≡ o → IsStillPage (entry_for page_key no_page n c.ptt)
  by_place None h = subst (λ (e : PttEntry). IsStillPage e) (sym (entry_for-none page_key no_page c.ptt n h))
      (record { dirty = refl; fresh = refl; busy = refl; same = refl })
  by_place (Some j) h =
      let f = found_entry page_key no_page c.ptt n j h in
      subst (λ (e : PttEntry). IsStillPage e) (sym (entry_for-some page_key no_page c.ptt n j f.0 h f.1 ∙ boot.pages j f.0 f.1))
      (record { dirty = refl; fresh = refl; busy = refl; same = refl })

-- if nothing is under way, the last version is at the place of the committed one
last_is_penult : (x : Cell) → IsStill x.entry → IsStillPage x.page → last x ≡ penult x
last_is_penult x e p = cc

by_frame : (r : Place → Block) (t : Bool) (x y : Place) → (t ≡ true → r x ≡ r y) → r (if t then x else y) ≡ r y
by_frame r true x y h = h refl
by_frame r false x y h = refl

work_is_penult : (r : Place → Block) (x : Cell) → IsStill x.entry → IsStillPage x.page → Holds r x → r (work x) ≡ r (penult x)
work_is_penult r x e p h =
    ap (λ (w : Working). r (worked_at w (is_framed x.page) (last x) x.entry.v0 (seat_of x))) e.work
    ∙ by_frame r (is_framed x.page) (frame_at (seat_of x)) (last x) (λ f. h.clean f p.dirty p.fresh)
    ∙ ap r (last_is_penult x e p)

module _ (c : State) (n : Device) (sound : AreSoundTables c) (boot : IsBooting c) (holds : HoldAll c n) (settled : n.queue ≡ [])
    (law : CommittedTables) where
  work_stands : (b : ℕ) → b < memory_blocks c.p → work_of c n b ≡ block_at n.image (number_of c.p (place_in (tables0 c) b))
  work_stands b l =
      let x : Cell = cell_of c b in
      let at : Place = penult x in
      work_is_penult (reads c n) x (still_block c boot b) (still_page c boot (page_of b)) (holds b l)
      ∙ ap (λ (z : Bool). if z then block_at c.dram.blocks (number_of c.p at) else newest n (number_of c.p at))
      (placed-in_nvm x.entry.v0 x.page.place (seat_of x))
      ∙ newest-empty n (number_of c.p at) settled
      ∙ ap (λ (y : Place). block_at n.image (number_of c.p y)) (sym ((law c sound).same_place b l))

  -- a boot's loads give all of memory
  pub loads-are : loads c n ≡ blocks_at n.image (memory_numbers c.p (tables0 c))
  loads-are =
      let size : ℕ = memory_blocks c.p in
      let num : ℕ → ℕ = λ b. number_of c.p (place_in (tables0 c) b) in
      let size_a : length (loads c n) ≡ size = length-map (range_with_len 0 size) (work_of c n) ∙ length-range_with_len 0 size in
      let size_n : length (memory_numbers c.p (tables0 c)) ≡ size = length-map (range_with_len 0 size) num ∙ length-range_with_len 0 size in
      let size_b : length (blocks_at n.image (memory_numbers c.p (tables0 c))) ≡ size =
      length-map (memory_numbers c.p (tables0 c)) (block_at n.image) ∙ size_n in
      ext_get_or zero_block (loads c n) (blocks_at n.image (memory_numbers c.p (tables0 c))) (size_a ∙ sym size_b)
      (λ i l.
      let inside : i < size = omega (arith, l, size_a) in
      get_or-map-range_with_len (work_of c n) 0 size i i zero_block inside (omega arith) ∙ work_stands i inside
      ∙ sym (get_or-map (block_at n.image) (memory_numbers c.p (tables0 c)) i 0 zero_block (omega (arith, inside, size_n))
      ∙ ap (block_at n.image) (get_or-map-range_with_len num 0 size i i 0 inside (omega arith))))
