-- A store, done or failed, leaves what every call between two checkpoints has to leave.
use Rattle.std.proofs.Common.{◌≡◌, ◌≢◌, ℕ, ◌<◌, Bool, true, false, List, length, get_or, slice_set, map, option_and_then, if◌then◌else◌, refl, sym, ◌∙◌, ap, subst, inl, inr, arith, Option, Some, None, Result, Ok, Err, OnOk, OnErr}
use Rattle.std.proofs.lemmas.Bool.{cases_eq, both_ways}
use Rattle.std.proofs.lemmas.List.{length-set, length-map, get_or-map, get_or-set_same, get_or-set_other, ext_get_or}
use Rattle.thy_block.specs.Store.{page_of}
use Rattle.thy_block.specs.declared.block.Block.{Block}
use Rattle.thy_table.specs.declared.place.Place.{Place}
use Rattle.thy_block.specs.declared.store.Stored.{Stored}
use Rattle.thy_block.specs.declared.nvm.NvmError.{NvmError}
use Rattle.thy_block.specs.Device.{Device, HasFailed, IsFramed, newest, written_to}
use Rattle.thy_table.specs.Places.{in_dram, number_of, IsPlace}
use Rattle.thy_block.proofs.DeviceLemmas.{newest-written_to_other}
use Rattle.thy_dram.specs.Contents.{written}
use Rattle.thy_table.specs.Devices.{Devices, devices_of, written_at}
use Rattle.thy_table.specs.Listing.{Listing, index_of, free_count, with_entry}
use Rattle.thy_table.specs.declared.block_entry.BttEntry.{BttEntry}
use Rattle.thy_table.specs.declared.page_entry.PttEntry.{PttEntry}
use Rattle.thy_table.specs.BlockEntry.{new_entry}
use Rattle.thy_table.specs.PageEntry.{no_page}
use Rattle.thy_table.specs.declared.cell.Cell.{Cell}
use Rattle.thy_table.specs.declared.cell.StoreRule.{StoreRule}
use Rattle.thy_table.specs.declared.cell.StoreRule.TheVariants.{ToFrame, PendingFirst}
use Rattle.thy_table.specs.Cells.{penult, target, seat_of}
use Rattle.thy_table.specs.Rules.{store_place, after_store}
use Rattle.thy_table.specs.Store.{put_by}
use Rattle.thy_control.specs.Keys.{block_key, page_key}
use Rattle.thy_control.specs.StoredTables.{btt_with}
use Rattle.thy_control.specs.State.{State, AreSoundTables, IsSized, cell_of, reads, penult_of}
use Rattle.thy_control.specs.Rules.{with_block, with_cell, rule_for, cell_before, devices_after, state_after, FailsStore}
use Rattle.thy_control.specs.Versions.{KeepsCheckpoints}
use Rattle.thy_control.specs.Stays.{CellStays, Stays, HoldAll, StaysHeld}
use Rattle.thy_control.specs.OverCalls.{cell_same, cell_on, stays_same}
use Rattle.thy_control.specs.CheckpointTables.{tables0, tables1, entry_lists, page_lists}
use Rattle.thy_control.specs.Guarded.{LeavesGuarded, IsPlaced}
use Rattle.thy_control.proofs.FindLemmas.{stands_at, by_number}
use Rattle.thy_control.proofs.StateLemmas.{IsListed, IsListed-with_block, OrDirty, cell-with_block_other, entry-with_block, cell-with_cell_same, cell-with_cell_other, btt_with-by}
use Rattle.thy_control.proofs.PutLemmas.{has_free, lasts-counts_after}
use Rattle.thy_control.proofs.KeepLemmas.{same_start, penult-new, target-new, apart_place, placed-in_nvm, StepOutcome, LeavesGuarded-elsewhere}
use Rattle.thy_block.specs.Geometry.{memory_blocks}
use Rattle.thy_control.specs.Moves.{FailsMove}
use Rattle.thy_control.proofs.TablesLemmas.{owner, Owns-cell_of, owned-penult, owned-target, owned-apart}
pub use Rattle.thy_control.proofs.FindLemmas.{free_at}

-- if an element is replaced by one that maps to the same, the list maps to the same
pub map-set_same : {X Y : Type 0} (f : X → Y) (xs : List X) (i : ℕ) (y d : X) → f y ≡ f (get_or xs i d) → i < length xs
    → map f (slice_set xs i y) ≡ map f xs
map-set_same f xs i y d same inside =
    ext_get_or (f d) (map f (slice_set xs i y)) (map f xs) (length-map (slice_set xs i y) f ∙ length-set xs i y ∙ sym (length-map xs f))
    (λ k l.
    let in_set : k < length (slice_set xs i y) = omega (arith, l, length-map (slice_set xs i y) f) in
    let in_xs : k < length xs = omega (arith, in_set, length-set xs i y) in
    get_or-map f (slice_set xs i y) k d (f d) in_set
    ∙ (elim (cases_eq k i) as (λ _. f (get_or (slice_set xs i y) k d) ≡ f (get_or xs k d)) [
      | inl e ↦ ap (λ j. f (get_or (slice_set xs i y) j d)) e ∙ ap f (get_or-set_same xs i y d inside) ∙ same ∙ sym (ap (λ j. f (get_or xs j d)) e)
      | inr o ↦ ap f (get_or-set_other xs i k y d o)
    ])
    ∙ sym (get_or-map f xs k d (f d) in_xs))

module _ (f : BttEntry → Option ℕ) (new_none : (b : ℕ) → f (new_entry b) ≡ None) where
  map-with : (r : StoreRule) (b : ℕ) (t : Listing BttEntry)
      → map (option_and_then f) (btt_with r b t).entries ≡ map (option_and_then f) t.entries
  map-with r b t =
      btt_with-by (λ u. map (option_and_then f) u.entries ≡ map (option_and_then f) t.entries) r b t
      refl (λ i h e.
      let free = free_at t i e in
      map-set_same (option_and_then f) t.entries i (Some (new_entry b)) None
      (new_none b ∙ sym (ap (option_and_then f) free.0)) free.1)

-- an entry of the block table that is listed the same
pub map-block : (f : BttEntry → Option ℕ) (t : State) (b : ℕ) (e : BttEntry) → index_of block_key b t.btt ≡ Some (cell_of t b).i
    → f e ≡ f (cell_of t b).entry
    → map (option_and_then f) (with_entry (cell_of t b).i (Some e) t.btt).entries ≡ map (option_and_then f) t.btt.entries
map-block f t b e listed same =
    let there = stands_at block_key new_entry t.btt b (cell_of t b).i listed in
    map-set_same (option_and_then f) t.btt.entries (cell_of t b).i (Some e) None
    (same ∙ sym (ap (option_and_then f) there.0)) there.1

pub map-page : (f : PttEntry → Option ℕ) (t : State) (b : ℕ) (e : PttEntry) → index_of page_key (page_of b) t.ptt ≡ Some (cell_of t b).j
    → f e ≡ f (cell_of t b).page
    → map (option_and_then f) (with_entry (cell_of t b).j (Some e) t.ptt).entries ≡ map (option_and_then f) t.ptt.entries
map-page f t b e listed same =
    let there = stands_at page_key no_page t.ptt (page_of b) (cell_of t b).j listed in
    map-set_same (option_and_then f) t.ptt.entries (cell_of t b).j (Some e) None
    (same ∙ sym (ap (option_and_then f) there.0)) there.1

-- both tables are the same lists, with an entry more
tables0-with : (r : StoreRule) (b : ℕ) (s : State) → tables0 (with_block r b s) ≡ tables0 s
tables0-with r b s = ap (λ (l : List (Option ℕ)). record (tables0 s) { btt = l }) (map-with (λ e. entry_lists e.v0 e.block) (λ b. refl) r b s.btt)

tables1-with : (r : StoreRule) (b : ℕ) (s : State) → tables1 (with_block r b s) ≡ tables1 s
tables1-with r b s = ap (λ (l : List (Option ℕ)). record (tables1 s) { btt = l }) (map-with (λ e. entry_lists e.v1 e.block) (λ b. refl) r b s.btt)

-- the committed tables stay when a rule changes the entries of a block
tables0-cell : (r : StoreRule) (b : ℕ) (t : State) → IsListed r b t → tables0 (with_cell r (after_store r (cell_of t b)) t) ≡ tables0 t
tables0-cell ToFrame b t l = ap (λ (x : List (Option ℕ)). record (tables0 t) { ptt = x })
    (map-page (λ e. page_lists e.place e.page) t b (record (cell_of t b).page { dirty = true }) (l.page refl) refl)
tables0-cell r b t l =
    ap (λ (x : List (Option ℕ)). record (tables0 t) { btt = x })
    (map-block (λ e. entry_lists e.v0 e.block) t b (after_store r (cell_of t b)).entry
    (l.block (λ e. cc)) refl)

tables1-cell : (r : StoreRule) (b : ℕ) (t : State) → IsListed r b t → tables1 (with_cell r (after_store r (cell_of t b)) t) ≡ tables1 t
tables1-cell ToFrame b t l = ap (λ (x : List (Option ℕ)). record (tables1 t) { ptt = x })
    (map-page (λ e. page_lists e.target e.page) t b (record (cell_of t b).page { dirty = true }) (l.page refl) refl)
tables1-cell r b t l =
    ap (λ (x : List (Option ℕ)). record (tables1 t) { btt = x })
    (map-block (λ e. entry_lists e.v1 e.block) t b (after_store r (cell_of t b)).entry
    (l.block (λ e. cc)) refl)

-- the places of both checkpoints
place-with : (f : Cell → Place) → ((c : Cell) (k b : ℕ) → c.entry ≡ new_entry b → f (record c { i = k }) ≡ f c)
    → (r : StoreRule) (b : ℕ) (s : State) (k : ℕ)
    → f (cell_of (with_block r b s) k) ≡ f (cell_of s k)
place-with f free r b s k =
    by_number (λ j. f (cell_of (with_block r b s) j) ≡ f (cell_of s j)) b k
    (same_start f r b s (λ i h. free (cell_of s b) i b h))
    (λ ne. ap f (cell-with_block_other r b s k ne))

-- a block with an entry
stays-with : (r : StoreRule) (b : ℕ) (s : State) (k : ℕ) → CellStays (cell_of s k) (cell_of (with_block r b s) k)
stays-with r b s k = record {
  penult_same = place-with penult penult-new r b s k;
  target_same = place-with target target-new r b s k;
  settled = λ h. ap (λ (e : BttEntry). e.pend) (entry-with_block r b s k) ∙ h;
  busy_before = λ h. h;
  issued = omega arith;
}

-- a block as a rule leaves it
stays-after : (r : StoreRule) (c : Cell) → CellStays c (after_store r c)
stays-after PendingFirst c = record { penult_same = refl; target_same = refl; settled = λ h. refl; busy_before = λ h. h; issued = omega arith }
stays-after r c =
    record {
      penult_same = refl;
      target_same = refl;
      settled = λ h. h;
      busy_before = λ h. h;
      issued = omega arith;
    }

-- a block that is as it was, or whose page became dirty, stays
stays-or_dirty : (r : StoreRule) (c d : Cell) → OrDirty r c d → CellStays c d
stays-or_dirty r c d (inl e) = subst (λ (x : Cell). CellStays c x) (sym e) (cell_same c)
stays-or_dirty r c d (inr e) = subst (λ (x : Cell). CellStays c x) (sym e.1) (stays-after ToFrame c)

stays-cell : (r : StoreRule) (b : ℕ) (t : State) (k : ℕ) → IsListed r b t
    → CellStays (cell_of t k) (cell_of (with_cell r (after_store r (cell_of t b)) t) k)
stays-cell r b t k l =
    let u : State = with_cell r (after_store r (cell_of t b)) t in
    by_number (λ j. CellStays (cell_of t j) (cell_of u j)) b k
    (subst (CellStays (cell_of t b)) (sym (cell-with_cell_same r b t l))
    (stays-after r (cell_of t b)))
    (λ ne. stays-or_dirty r (cell_of t k) (cell_of u k) (cell-with_cell_other r b t k l ne))

-- what stands apart from memory's places reads as before
pub apart-reads : (side : Bool) (at x : ℕ) (block : Block) (d : Devices) → (side ≡ false → x ≢ at) → x < length d.nvm.image
    → newest (if side then record d { dram = written d.dram at block } else record d { nvm = written_to d.nvm at block }).nvm x
    ≡ newest d.nvm x
apart-reads true at x block d other l = refl
apart-reads false at x block d other l = newest-written_to_other d.nvm at block x (other refl) l

-- what a step leaves of the tables
pub record StaysTables (s u : State) : Type 0 where
  pub same_p : u.p ≡ s.p
  pub same_way : u.under_way ≡ s.under_way
  pub tables0_same : tables0 u ≡ tables0 s
  pub tables1_same : tables1 u ≡ tables1 s
  pub lasts_same : u.counts.lasts ≡ s.counts.lasts
  pub cells : (b : ℕ) → b < memory_blocks s.p → CellStays (cell_of s b) (cell_of u b)

-- what stays over a step that was done
pub Stays-step : (s : State) (y : Place) (v : Block) (m : Device) (u : State) → IsPlace s.p y → IsSized s m → StaysTables s u
    → (m.down ≡ true → (written_at s.p y v (devices_of m s.dram)).nvm.down ≡ true)
    → IsFramed m (written_at s.p y v (devices_of m s.dram)).nvm → LeavesGuarded s m (written_at s.p y v (devices_of m s.dram)).nvm
    → ((b : ℕ) → b < memory_blocks s.p → penult_of u (written_at s.p y v (devices_of m s.dram)).nvm b ≡ penult_of s m b)
    → (HoldAll s m → StaysHeld s m u (written_at s.p y v (devices_of m s.dram)).nvm)
    → Stays s m u (written_at s.p y v (devices_of m s.dram)).nvm
Stays-step s y v m u there sized tables down framed guarded penult_same held = record {
  as_long = framed.blocks;
  same_p = tables.same_p;
  same_way = tables.same_way;
  down = down;
  tables0_same = tables.tables0_same;
  tables1_same = tables.tables1_same;
  lasts_same = tables.lasts_same;
  cells = tables.cells;
  guarded = guarded;
  up = λ d. record {
    apart_reads = λ x l inside. apart-reads (in_dram y) (number_of s.p y) x v (devices_of m s.dram)
        (λ side. apart_place s.p y x there side l)
        (omega (arith, inside, sized.nvm));
    penult_same = penult_same;
    held = held;
  };
}

-- what stays over a step stays if the step failed
pub Stays-failed_step : (s : State) (m n : Device) → IsFramed m n → n.down ≡ true → LeavesGuarded s m n → Stays s m s n
Stays-failed_step s m n framed is_down guarded = record {
  as_long = framed.blocks;
  same_p = refl;
  same_way = refl;
  down = λ d. is_down;
  tables0_same = refl;
  tables1_same = refl;
  lasts_same = refl;
  cells = λ b l. cell_same (cell_of s b);
  guarded = guarded;
  up = λ d. absurd (both_ways _ d is_down);
}

-- a read that failed leaves nothing new anywhere
pub LeavesGuarded-failed : (s : State) (m n : Device) → HasFailed m n → LeavesGuarded s m n
LeavesGuarded-failed s m n failed = record {
  apart = λ y l. record { no_more = λ b h. failed.no_more y b h };
  old = λ b l. record { no_more = λ y h. failed.no_more (number_of s.p (penult (cell_of s b))) y h };
  next = λ b l q. record
      { no_more = λ y h. failed.no_more (number_of s.p (target (cell_of s b))) y h };
}

-- one block's place was written: what a cut may leave of the checkpoints stays if its own two
-- places are others
pub LeavesGuarded-step : (s : State) (y : Place) (v : Block) (m n : Device) (b : ℕ)
    → AreSoundTables s → IsPlace s.p y → owner s y ≡ Some b
    → penult (cell_of s b) ≢ y → (IsPlaced b (cell_of s b) → target (cell_of s b) ≢ y)
    → StepOutcome s y v m n → LeavesGuarded s m n
LeavesGuarded-step s y v m n b t there owns not_penult not_target =
    LeavesGuarded-elsewhere s y v m n t there (record {
      not_penult = λ k. by_number (λ j. penult (cell_of s j) ≢ y) b k not_penult
          (λ ne. owned-apart s k b (penult (cell_of s k)) y ne
          (owned-penult s k (cell_of s k) (Owns-cell_of s k)) owns);
      not_target = λ k. by_number (λ j. IsPlaced j (cell_of s j) → target (cell_of s j) ≢ y) b k
          not_target
          (λ ne placed. owned-apart s k b (target (cell_of s k)) y ne
          (owned-target s k (cell_of s k) (Owns-cell_of s k)) owns);
    })

-- a place of the DRAM is none of a checkpoint
module _ (s : State) (b : ℕ) (y : Place) (side : in_dram y ≡ true) where
  pub penult-in_nvm : penult (cell_of s b) ≢ y
  penult-in_nvm e =
      both_ways _ (ap in_dram (sym e)
      ∙ placed-in_nvm (cell_of s b).entry.v0 (cell_of s b).page.place (seat_of (cell_of s b))) side

  pub target-in_nvm : target (cell_of s b) ≢ y
  target-in_nvm e =
      both_ways _ (ap in_dram (sym e)
      ∙ placed-in_nvm (cell_of s b).entry.v1 (cell_of s b).page.target (seat_of (cell_of s b))) side

-- a move that failed is such an outcome, and leaves the NVM down
pub Outcome-failed : (s : State) (from to : Place) (m n : Device) → FailsMove s.p from to (devices_of m s.dram) (devices_of n s.dram)
    → StepOutcome s to (reads s m from) m n × (n.down ≡ true)
Outcome-failed s from to m n f =
    elim f.failed as (λ _. StepOutcome s to (reads s m from) m n × (n.down ≡ true)) [
      | inl r ↦ (inr (inl r.failed), r.failed.down)
      | inr w ↦ (inr (inr (w.in_nvm, w.failed)), w.failed.down)
    ]

-- a store was done
pub Stays-done : (b : ℕ) (block : Block) (s : State) (m : Device) → AreSoundTables s → IsSized s m → 0 < free_count s.btt → m.down ≡ false
    → IsPlace s.p (store_place (rule_for b s) (cell_before b s))
    → IsFramed m (devices_after b block s m).nvm → LeavesGuarded s m (devices_after b block s m).nvm
    → KeepsCheckpoints s m (state_after b block s m) (devices_after b block s m).nvm
    → (HoldAll s m → HoldAll (state_after b block s m) (devices_after b block s m).nvm)
    → Stays s m (state_after b block s m) (devices_after b block s m).nvm
unfolding state_after devices_after cell_before
Stays-done b block s m t sized room up there framed guarded keeps holds =
    let r : StoreRule = rule_for b s in
    let u : State = with_block r b s in
    let listed : IsListed r b u = IsListed-with_block r b s refl (has_free s.btt room) in
    Stays-step s (store_place r (cell_of u b)) (put_by r block (reads s m) (cell_of u b)) m
    (state_after b block s m) there sized
    (record {
      same_p = refl;
      same_way = refl;
      tables0_same = tables0-cell r b u listed ∙ tables0-with r b s;
      tables1_same = tables1-cell r b u listed ∙ tables1-with r b s;
      lasts_same = lasts-counts_after r (page_of b) s.counts;
      cells = λ k l. cell_on (cell_of s k) (cell_of u k) (cell_of (with_cell r (after_store r (cell_of u b)) u) k) (stays-with r b s k)
          (stays-cell r b u k listed);
    })
    (λ d. absurd (both_ways _ up d)) framed guarded keeps.penult_same
    (λ h. record { holds = holds h; last_same = keeps.last_same })

-- what stays over a store stays if the store failed
pub Stays-failed : (b : ℕ) (block : Block) (s : State) (m n : Device) → FailsStore b block s m n
    → IsFramed m n → LeavesGuarded s m n → Stays s m s n
Stays-failed b block s m n failed framed guarded =
    Stays-failed_step s m n framed failed.failed.down guarded

-- whichever way a call ended
pub stays_by : (b : ℕ) (block : Block) (s : State) (m : Device) (t : State) (n : Device) (r : Result Stored NvmError)
    → OnOk r (t ≡ state_after b block s m) → OnOk r (n ≡ (devices_after b block s m).nvm)
    → OnErr r (t ≡ s) → OnErr r (FailsStore b block s m n)
    → OnOk r (KeepsCheckpoints s m t n) → OnOk r (HoldAll s m → HoldAll t n)
    → AreSoundTables s → IsSized s m → 0 < free_count s.btt → m.down ≡ false
    → IsPlace s.p (store_place (rule_for b s) (cell_before b s)) → IsFramed m n → LeavesGuarded s m n → Stays s m t n
stays_by b block s m t n (Ok x) e f k g keeps holds tables sized room up there framed guarded =
    subst (λ (y : State). Stays s m y n) (sym e) (subst (λ (y : Device). Stays s m (state_after b block s m) y) (sym f)
    (Stays-done b block s m tables sized room up there (subst (λ (y : Device). IsFramed m y) f framed)
    (subst (λ (y : Device). LeavesGuarded s m y) f guarded)
    (subst (λ (y : Device). KeepsCheckpoints s m (state_after b block s m) y) f (subst (λ (y : State). KeepsCheckpoints s m y n) e keeps))
    (subst (λ (y : Device). HoldAll s m → HoldAll (state_after b block s m) y) f (subst (λ (y : State). HoldAll s m → HoldAll y n) e holds))))
stays_by b block s m t n (Err x) e f k g keeps holds tables sized room up there framed guarded =
    subst (λ (y : State). Stays s m y n) (sym k) (Stays-failed b block s m n g framed guarded)

-- a read leaves the controller as it is, and the NVM too unless it failed
pub stays_read : (s : State) (m n : Device) (r : Result Block NvmError) → OnOk r (n ≡ m) → OnErr r (HasFailed m n) → IsFramed m n
    → Stays s m s n
stays_read s m n (Ok x) same failed framed = subst (λ (k : Device). Stays s m s k) (sym same) (stays_same s m)
stays_read s m n (Err x) same failed framed =
    Stays-failed_step s m n framed failed.down (LeavesGuarded-failed s m n failed)
