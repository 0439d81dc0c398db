-- A checkpoint of version 1 means the same if it is written again in version 2.
use Rattle.std.proofs.Common.{◌≡◌, ◌≢◌, ℕ, ◌+◌, ◌%◌, ◌<◌, ◌≤◌, Bool, true, false, if◌then◌else◌, List, map, None, refl, sym, ◌∙◌, ap, subst, arith}
use Rattle.std.specs.List.{range_with_len}
use Rattle.std.proofs.lemmas.List.FromFn.{length-map-range_with_len, get_or-map-range_with_len}
use Rattle.thy_block.specs.declared.block.Block.{Block}
use Rattle.thy_block.specs.declared.parameters.Parameters.{Parameters}
use Rattle.thy_block.specs.Device.{Device, zero_block, block_at, newest}
use Rattle.thy_block.specs.Geometry.{memory_blocks}
use Rattle.thy_block.proofs.BasicLemmas.{Contains-range}
use Rattle.thy_table.specs.Cells.{seat_of, frame_at, target, last, work}
use Rattle.thy_control.specs.State.{State, cell_of, work_of, reads}
use Rattle.thy_control.specs.Stays.{HoldAll}
use Rattle.thy_control.proofs.StateLemmas.{IsPlace-target, IsPlace-last, IsPlace-work, IsWithin-cell_of}
use Rattle.thy_control.proofs.KeepLemmas.{hold_same, IsPlace-frame_of}
use Rattle.thy_layout.specs.declared.layout_version.LayoutVersion.{LayoutVersion}
use Rattle.thy_layout.specs.declared.layout_version.LayoutVersion.TheVariants.{VersionOne, VersionTwo}
use Rattle.thy_layout.specs.Commit.{epoch_of, version_of}
use Rattle.thy_layout.proofs.AskingLemmas.{map-alike, half}
use Rattle.thy_layout.proofs.ReadBackLemmas.{epoch_of-commit_of, version_of-commit_of}
use Rattle.thy_table.specs.declared.place.Place.{Place}
use Rattle.thy_table.specs.Places.{in_dram, number_of, IsPlace, first_home, blocks_one, slot_place}
use Rattle.thy_table.proofs.PlaceLemmas.{between_slots}
use Rattle.thy_record.specs.ThynvmLayouts.{thynvm_layouts}
use Rattle.thy_record.specs.Migrated.{IsWrittenAnew, MeansTheSame}
use Rattle.thy_record.specs.Number.{scheme_number}
use Rattle.thy_record.specs.Slots.{counts_in, slot_fault}
use Rattle.thy_record.specs.Tables.{Tables, place_of}
use Rattle.thy_record.specs.VersionSlots.{blocks_of_slot, place_of_slot}
use Rattle.thy_record.proofs.IssuingLemmas.{old_slot_before, slot_behind}
use Rattle.thy_record.proofs.MigratedLemmas.{anew_means_the_same}
use Rattle.thy_computer.specs.Safe.{ceiling}
use Rattle.thy_checkpoint.specs.Filling.{IsOlder, IsTheSame, ReadsAlike, anew, slot_anew}
use Rattle.thy_thynvm_parts.specs.Filling.{ListsSlot, loads, filling_thynvm}

-- ---- what the slot means

module _ (p : Parameters) (commit : Block) (slot : List Block) (older : IsOlder (thynvm_layouts p) p commit slot) where
  abbrev epoch : ℕ
  epoch = epoch_of commit

  abbrev new : List Block
  new = slot_anew (thynvm_layouts p) commit slot

  version_is : version_of scheme_number p (anew commit) ≡ VersionTwo
  version_is = version_of-commit_of scheme_number p epoch

  epoch_is : epoch_of (anew commit) ≡ epoch
  epoch_is = epoch_of-commit_of epoch (omega (arith, older.below))

  count_is : blocks_of_slot (version_of scheme_number p (anew commit)) p ≡ blocks_of_slot VersionTwo p
  count_is = ap (λ (v : LayoutVersion). blocks_of_slot v p) version_is

  is_anew : IsWrittenAnew p slot new
  is_anew = record {
    short = older.long ∙ ap (λ (v : LayoutVersion). blocks_of_slot v p) older.version;
    long = length-map-range_with_len (block_at slot) 0 (blocks_of_slot (version_of scheme_number p (anew commit)) p) ∙ count_is;
    each = λ k l.
        get_or-map-range_with_len (block_at slot) 0 (blocks_of_slot (version_of scheme_number p (anew commit)) p) k k zero_block
        (omega (arith, l, count_is)) (omega arith);
  }

  none : slot_fault VersionOne p ceiling epoch slot ≡ None
  none = ap (λ (v : LayoutVersion). slot_fault v p ceiling epoch slot) (sym older.version) ∙ older.faultless

  pub means_the_same : MeansTheSame p ceiling epoch slot new
  means_the_same = anew_means_the_same p ceiling epoch slot new is_anew none

  pub faultless_anew : slot_fault (version_of scheme_number p (anew commit)) p ceiling (epoch_of (anew commit)) new ≡ None
  faultless_anew =
      ap (λ (v : LayoutVersion). slot_fault v p ceiling (epoch_of (anew commit)) new) version_is
      ∙ ap (λ (e : ℕ). slot_fault VersionTwo p ceiling e new) epoch_is
      ∙ means_the_same.faultless

  pub counts_anew : counts_in (version_of scheme_number p (anew commit)) p new ≡ counts_in (version_of scheme_number p commit) p slot
  counts_anew =
      ap (λ (v : LayoutVersion). counts_in v p new) version_is
      ∙ means_the_same.no_counts
      ∙ ap (λ (v : LayoutVersion). counts_in v p slot) (sym older.version)

  -- the place of the slot that is written again; slots lie before all places of memory, or after them
  place_is : place_of_slot (version_of scheme_number p (anew commit)) p (epoch_of (anew commit) % 2) ≡ slot_place p (epoch % 2)
  place_is =
      ap (λ (v : LayoutVersion). place_of_slot v p (epoch_of (anew commit) % 2)) version_is
      ∙ ap (λ (e : ℕ). slot_place p (e % 2)) epoch_is

  pub behind_memory : (k : ℕ) → blocks_one p ≤ place_of_slot (version_of scheme_number p (anew commit)) p (epoch_of (anew commit) % 2) + k
  behind_memory k = omega (arith, slot_behind p (epoch % 2) k, place_is)

  pub slots_apart : (i k : ℕ) → i < blocks_of_slot (version_of scheme_number p commit) p
      → place_of_slot (version_of scheme_number p commit) p (epoch % 2) + i ≢ place_of_slot (version_of scheme_number p (anew commit)) p
      (epoch_of (anew commit) % 2) + k
  slots_apart i k inside e =
      let old : i < blocks_of_slot VersionOne p = subst (λ (v : LayoutVersion). i < blocks_of_slot v p) older.version inside in
      let before = old_slot_before p (epoch % 2) i (half epoch) old in
      let here : place_of_slot (version_of scheme_number p commit) p (epoch % 2) ≡ place_of_slot VersionOne p (epoch % 2)
      = ap (λ (v : LayoutVersion). place_of_slot v p (epoch % 2)) older.version in
      omega (arith, e, before.1, here, behind_memory k)

-- ---- what the controller has of it

module _ (c : State) (commit : Block) (slot : List Block) (older : IsOlder (thynvm_layouts c.p) c.p commit slot)
    (listed : ListsSlot commit slot c) where
  lists_anew : ListsSlot (anew commit) (slot_anew (thynvm_layouts c.p) commit slot) c
  lists_anew = record {
    tables = listed.tables;
    booting = listed.booting;
    are = listed.are ∙ sym (means_the_same c.p commit slot older).tables_same;
    counts = listed.counts ∙ sym (counts_anew c.p commit slot older);
  }

  -- over a device on which memory's places read as before
  module _ (n m : Device) (alike : ReadsAlike (thynvm_layouts c.p) (anew commit) n m) where
    same_read : (x : ℕ) → first_home c.p ≤ x → x < blocks_one c.p → newest m x ≡ newest n x
    same_read x low high =
        alike.each x (λ e. omega (arith, e, low)) (omega (arith, high))
        (λ k inside e. omega (arith, e, high, behind_memory c.p commit slot older k))

    same_place : (place : Place) → IsPlace c.p place → reads c m place ≡ reads c n place
    same_place place there = by_side (in_dram place) refl where
      by_side : (z : Bool) → in_dram place ≡ z
          → (if z then block_at c.dram.blocks (number_of c.p place) else newest m (number_of c.p place))
          ≡ (if z then block_at c.dram.blocks (number_of c.p place) else newest n (number_of c.p place))
      by_side true h = refl
      by_side false h = let between = between_slots c.p place there h in same_read (number_of c.p place) between.0 between.1

    still : HoldAll c n → HoldAll c m
    still holds b l =
        let w = IsWithin-cell_of c b listed.tables l in
        let frame : reads c m (frame_at (seat_of (cell_of c b))) ≡ reads c n (frame_at (seat_of (cell_of c b)))
        = same_place (frame_at (seat_of (cell_of c b))) (IsPlace-frame_of c b listed.tables l) in
        hold_same (reads c n) (reads c m) (cell_of c b)
        (same_place (target (cell_of c b)) (IsPlace-target c.p (cell_of c b) w)) (same_place (last (cell_of c b)) (IsPlace-last c.p (cell_of c b) w))
        (same_place (work (cell_of c b)) (IsPlace-work c.p (cell_of c b) w)) (λ f. frame) (λ f. frame) (λ f. frame) (holds b l)

    loads_alike : loads c m ≡ loads c n
    loads_alike =
        map-alike (work_of c m) (work_of c n) (range_with_len 0 (memory_blocks c.p)) (λ b inside.
        let at = Contains-range 0 (memory_blocks c.p) b inside in
        let below = at.1 in
        let same = at.2 in
        same_place (work (cell_of c b)) (IsPlace-work c.p (cell_of c b) (IsWithin-cell_of c b listed.tables (omega (arith, below, same)))))

-- ---- all of it

older_at : (p q : Parameters) (commit : Block) (slot : List Block) → q ≡ p → IsOlder (thynvm_layouts p) p commit slot
    → IsOlder (thynvm_layouts q) q commit slot
older_at p q commit slot same older = subst (λ (r : Parameters). IsOlder (thynvm_layouts r) r commit slot) (sym same) older

pub renewed_is_the_same : (p : Parameters) (commit : Block) (slot : List Block) → IsOlder (thynvm_layouts p) p commit slot
    → IsTheSame filling_thynvm p commit slot
renewed_is_the_same p commit slot older = record {
  faultless = faultless_anew p commit slot older;
  cpu = (means_the_same p commit slot older).cpu_same;
  places = ap (λ (t : Tables). map (λ b. number_of p (place_of t b)) (range_with_len 0 (memory_blocks p)))
      (means_the_same p commit slot older).tables_same;
  apart = λ i k inside there. slots_apart p commit slot older i k inside;
  lists = λ c same listed.
      subst (λ (q : Parameters). ListsSlot (anew commit) (slot_anew (thynvm_layouts q) commit slot) c) same
      (lists_anew c commit slot (older_at p c.p commit slot same older) listed);
  still = λ c n m same listed sized alike holds.
      let mine : IsOlder (thynvm_layouts c.p) c.p commit slot = older_at p c.p commit slot same older in
      let over : ReadsAlike (thynvm_layouts c.p) (anew commit) n m =
      subst (λ (q : Parameters). ReadsAlike (thynvm_layouts q) (anew commit) n m) (sym same) alike in
      (still c commit slot mine listed n m over holds, loads_alike c commit slot mine listed n m over);
}
