-- What a load and a store leave, seen as a store of blocks.
use Rattle.std.proofs.Common.{◌≡◌, ◌≢◌, ℕ, ◌+◌, ◌<◌, ◌≤◌, ◌==◌, ◌&&◌, Bool, true, false, not, if◌then◌else◌, length, get_or, slice_set, map, refl, sym, ◌∙◌, ap, subst, inl, inr, arith, Option, Some, None, Result, Ok, Err, IfOk, OnOk, OnErr}
use Rattle.std.specs.List.{range_with_len}
use Rattle.std.proofs.lemmas.Bool.{cases_eq, and_parts, eqb-true, not-true, false≢true}
use Rattle.std.proofs.lemmas.List.{length-set, get_or-set_same, get_or-set_other}
use Rattle.std.proofs.lemmas.List.FromFn.{length-map-range_with_len, get_or-map-range_with_len, fill_by_all}
use Rattle.thy_block.specs.declared.block.Block.{Block}
use Rattle.thy_block.specs.declared.parameters.Parameters.{Parameters}
use Rattle.thy_block.specs.declared.store.Stored.{Stored}
use Rattle.thy_block.specs.declared.store.Stored.TheVariants.{Done, CopyFirst}
use Rattle.thy_block.specs.declared.nvm.NvmError.{NvmError}
use Rattle.thy_block.specs.Device.{Device, HasFailed, IsFramed, zero_block, written_to}
use Rattle.thy_block.specs.Geometry.{memory_blocks}
use Rattle.thy_table.specs.Places.{image_blocks}
use Rattle.thy_block.specs.Store.{page_of, IsStored, HasStored}
use Rattle.thy_dram.specs.Contents.{written}
use Rattle.thy_table.specs.Devices.{Devices, devices_of}
use Rattle.thy_table.specs.Listing.{free_count, passes, index_of}
use Rattle.thy_table.specs.declared.page_entry.PttEntry.{PttEntry}
use Rattle.thy_table.specs.declared.block_entry.Pending.TheVariants.{FromBuffer}
use Rattle.thy_table.specs.PageEntry.{no_page, is_framed}
use Rattle.thy_table.specs.declared.cell.StoreRule.{StoreRule}
use Rattle.thy_table.specs.declared.cell.StoreRule.TheVariants.{PendingFirst}
use Rattle.thy_table.specs.Sound.{IsWhole}
use Rattle.thy_table.specs.Rules.{store_place, after_store}
use Rattle.thy_table.specs.Store.{put_by}
use Rattle.thy_control.specs.Keys.{page_key}
use Rattle.thy_control.specs.StoredTables.{btt_with, btt_after, answer_of}
use Rattle.thy_control.specs.State.{State, AreSoundTables, IsSized, cell_of, work_of, reads}
use Rattle.thy_control.specs.Rules.{with_block, rule_for, cell_before, devices_after, state_after, IsWholeState, StoresFree, FailsStore, with_cell}
use Rattle.thy_control.specs.Accesses.{LeavesAll, MakesStore}
use Rattle.thy_control.specs.Versions.{PutsWork}
use Rattle.thy_control.specs.Stays.{Stays}
use Rattle.thy_control.specs.Holding.{works, is_promoted, waiting, promoted, holding_of}
use Rattle.thy_control.specs.Once.{Once, Writes, KeepsCheckpointWork}
use Rattle.thy_control.proofs.HoldingLemmas.{works-sized}
use Rattle.thy_control.proofs.FindLemmas.{found_entry, entry_for-none, entry_for-some, by_number}
use Rattle.thy_control.proofs.StateLemmas.{IsPlace-store, IsListed, IsListed-with_block, OrDirty, entry-with_block, cell-with_cell_same, cell-with_cell_other, first_is_pending}
use Rattle.thy_control.proofs.PutLemmas.{has_free, IsWithin-before}
use Rattle.thy_control.proofs.CountLemmas.{free-with, free-cell, waiting-with, waiting-cell, waiting-copied, promoted-cell, none-counted}
use Rattle.thy_table.specs.declared.block_entry.BttEntry.{BttEntry}
use Rattle.thy_table.specs.declared.cell.Cell.{Cell}

-- a copy goes first only of a buffer
pub first_waits : (b : ℕ) (s : State) → rule_for b s ≡ PendingFirst → (cell_of s b).entry.pend ≡ FromBuffer
unfolding rule_for
first_waits b s e = first_is_pending (cell_of s b) e

pub work_same : (c : Cell) → KeepsCheckpointWork c c
work_same c = record { busy_same = refl; issued_same = refl; pending = inl refl }

-- a block with an entry
pub work-with : (r : StoreRule) (b : ℕ) (s : State) (k : ℕ) → KeepsCheckpointWork (cell_of s k) (cell_of (with_block r b s) k)
work-with r b s k = record {
  busy_same = refl;
  issued_same = refl;
  pending = inl (ap (λ (e : BttEntry). e.pend) (entry-with_block r b s k));
}

-- a block as a rule leaves it
work-after : (r : StoreRule) (c d : Cell) → d.entry.pend ≡ c.entry.pend → d.page ≡ c.page → (r ≡ PendingFirst → c.entry.pend ≡ FromBuffer)
    → KeepsCheckpointWork c (after_store r d)
work-after PendingFirst c d e p first = record {
  busy_same = ap (λ (x : PttEntry). x.busy) p;
  issued_same = ap (λ (x : PttEntry). x.issued) p;
  pending = inr (first refl, refl);
}
work-after r c d e p first =
    record {
      busy_same = ap (λ (x : PttEntry). x.busy) p;
      issued_same = ap
          (λ (x : PttEntry). x.issued) p;
      pending = inl e;
    }

-- a block whose cell is as a rule left it, or whose page became dirty, keeps the work of the checkpoint under way
work-or_dirty : (r : StoreRule) (c d f : Cell) → KeepsCheckpointWork c d → OrDirty r d f → KeepsCheckpointWork c f
work-or_dirty r c d f w (inl e) = subst (λ (x : Cell). KeepsCheckpointWork c x) (sym e) w
work-or_dirty r c d f w (inr e) =
    subst (λ (x : Cell). KeepsCheckpointWork c x) (sym e.1) (record { busy_same = w.busy_same; issued_same = w.issued_same; pending = w.pending })

-- a store that was done keeps the work of the checkpoint under way
pub work-stored : (b : ℕ) (block : Block) (s : State) (m : Device) → 0 < free_count s.btt → (k : ℕ)
    → KeepsCheckpointWork (cell_of s k) (cell_of (state_after b block s m) k)
unfolding state_after devices_after cell_before
work-stored b block s m room k =
    let r : StoreRule = rule_for b s in
    let u : State = with_block r b s in
    let v : State = with_cell r (after_store r (cell_of u b)) u in
    let listed : IsListed r b u = IsListed-with_block r b s refl (has_free s.btt room) in
    by_number (λ j. KeepsCheckpointWork (cell_of s j) (cell_of v j)) b k
    (subst (KeepsCheckpointWork (cell_of s b)) (sym (cell-with_cell_same r b u listed))
    (work-after r (cell_of s b) (cell_of u b) (ap (λ (x : BttEntry). x.pend) (entry-with_block r b s b)) refl (first_waits b s)))
    (λ ne. work-or_dirty r (cell_of s k) (cell_of u k) (cell_of v k) (work-with r b s k)
    (cell-with_cell_other r b u k listed ne))

-- ---- a load and a store

-- what is ready has no promotion unfinished, and the NVM is up
unpromoted : (framed fresh : Bool) → (not framed && fresh) ≡ false → framed ≡ false → fresh ≡ false
unpromoted true fresh h e = cc
unpromoted false fresh h e = h

pub whole_page : (s : State) (b : ℕ) → promoted s.ptt ≡ 0 → (o : Option ℕ) → index_of page_key (page_of b) s.ptt ≡ o
    → IsWhole (cell_of s b).page
whole_page s b none None h =
    let is : (cell_of s b).page ≡ no_page (page_of b) = entry_for-none page_key no_page s.ptt (page_of b) h in
    record { framed = λ f. ap (λ (x : PttEntry). x.fresh) is }
whole_page s b none (Some i) h =
    let there = found_entry page_key no_page s.ptt (page_of b) i h in
    let is : (cell_of s b).page ≡ there.0 = entry_for-some page_key no_page s.ptt (page_of b) i there.0 h there.1 in
    let no_more : is_promoted there.0 ≡ false =
    sym (ap (passes is_promoted) there.1) ∙ none-counted (passes is_promoted) s.ptt.entries i None none there.3 in
    record { framed = λ f. ap (λ (x : PttEntry). x.fresh) is ∙ unpromoted (is_framed there.0) there.0.fresh no_more (sym (ap is_framed is) ∙ f) }

pub ready-whole : (s : State) (m : Device) → (holding_of s m).ready ≡ true → IsWholeState s × (m.down ≡ false)
ready-whole s m h =
    let both = and_parts (promoted s.ptt == 0) (not m.down) h in (
      record { whole = λ b l. whole_page s b (eqb-true (promoted s.ptt) 0 both.0) (index_of page_key (page_of b) s.ptt) refl },
      not-true m.down both.1,
    )

-- blocks by a function that gives the same but for one number
blocks_set : (f g : ℕ → Block) (size b : ℕ) (block : Block) → g b ≡ block → ((k : ℕ) → k < size → k ≢ b → g k ≡ f k)
    → map g (range_with_len 0 size) ≡ slice_set (map f (range_with_len 0 size)) b block
blocks_set f g size b block here others =
    let old = map f (range_with_len 0 size) in
    sym (fill_by_all g (slice_set old b block) size zero_block (length-set old b block ∙ length-map-range_with_len f 0 size)
    (λ k l. elim (cases_eq k b) as (λ _. get_or (slice_set old b block) k zero_block ≡ g k) [
      | inl e ↦
          ap (λ j. get_or (slice_set old b block) j zero_block) e
          ∙ get_or-set_same old b block zero_block (omega (arith, l, e, length-map-range_with_len f 0 size))
          ∙ sym here ∙ ap g (sym e)
      | inr o ↦ get_or-set_other old b k block zero_block o ∙ get_or-map-range_with_len f 0 size k k zero_block l (omega arith) ∙ sym (others k l o)
    ]))

blocks_same : (f g : ℕ → Block) (size : ℕ) → ((k : ℕ) → k < size → g k ≡ f k) → map g (range_with_len 0 size) ≡ map f (range_with_len 0 size)
blocks_same f g size each =
    sym (fill_by_all g (map f (range_with_len 0 size)) size zero_block (length-map-range_with_len f 0 size)
    (λ k l. get_or-map-range_with_len f 0 size k k zero_block l (omega arith) ∙ sym (each k l)))

sized_still : (s t : State) (m n : Device) → IsSized s m → t.p ≡ s.p → length n.image ≡ length m.image → IsSized t n
sized_still s t m n sized same long = record { nvm = long ∙ sized.nvm ∙ ap image_blocks (sym same) }

module _ (s : State) (m : Device) (t : State) (n : Device) (sized : IsSized s m) (up : m.down ≡ false) (up_still : n.down ≡ m.down)
    (stays : Stays s m t n) where
  works_now : works t n ≡ map (work_of t n) (range_with_len 0 (memory_blocks s.p))
  works_now =
      works-sized t n (sized_still s t m n sized stays.same_p stays.as_long) (up_still ∙ up)
      ∙ ap (λ (p : Parameters). map (work_of t n) (range_with_len 0 (memory_blocks p))) stays.same_p

  works-done : (b : ℕ) (block : Block) → PutsWork Done b block s m t n → works t n ≡ slice_set (works s m) b block
  works-done b block w =
      works_now ∙ blocks_set (work_of s m) (work_of t n) (memory_blocks s.p) b block w.work_here w.work_others
      ∙ ap (λ l. slice_set l b block) (sym (works-sized s m sized up))

  works-copied : (b : ℕ) (block : Block) → PutsWork CopyFirst b block s m t n → works t n ≡ works s m
  works-copied b block w =
      works_now
      ∙ blocks_same (work_of s m) (work_of t n) (memory_blocks s.p) (λ k l.
      by_number (λ j. work_of t n j ≡ work_of s m j) b k w.work_here (w.work_others k l))
      ∙ sym (works-sized s m sized up)

-- what the counts are after a store by a rule
pub record AreCounted (r : StoreRule) (s : State) (m : Device) (t : State) (n : Device) : Type 0 where
  pub free : free_count s.btt ≤ free_count t.btt + 1
  pub free_copied : r ≡ PendingFirst → free_count s.btt ≡ free_count t.btt
  pub whole : promoted t.ptt ≡ promoted s.ptt
  pub down : n.down ≡ m.down
  pub owed : r ≢ PendingFirst → waiting t.btt ≡ waiting s.btt
  pub owed_copied : r ≡ PendingFirst → waiting t.btt + 1 ≡ waiting s.btt

copied_less : (q : StoreRule) (b : ℕ) (s : State) → q ≡ PendingFirst → IsListed q b (with_block q b s)
    → (cell_of s b).entry.pend ≡ FromBuffer
    → waiting (btt_after q (after_store q (cell_of (with_block q b s) b)) (btt_with q b s.btt)) + 1 ≡ waiting s.btt
copied_less PendingFirst b s e l was = waiting-copied b s l was
copied_less r b s e l was = cc

down-on : (side : Bool) (at : ℕ) (block : Block) (d : Devices)
    → (if side then record d { dram = written d.dram at block } else record d { nvm = written_to d.nvm at block }).nvm.down ≡ d.nvm.down
down-on true at block d = refl
down-on false at block d = refl

AreCounted-after : (b : ℕ) (block : Block) (s : State) (m : Device) → 0 < free_count s.btt
    → AreCounted (rule_for b s) s m (state_after b block s m) (devices_after b block s m).nvm
unfolding state_after devices_after cell_before
AreCounted-after b block s m room =
    let r : StoreRule = rule_for b s in
    let u : State = with_block r b s in
    let listed : IsListed r b u = IsListed-with_block r b s refl (has_free s.btt room) in
    record {
      free = omega (arith, free-with r b s.btt, free-cell r b u listed);
      free_copied = λ e. sym (free-cell r b u listed ∙ ap (λ (q : StoreRule). free_count (btt_with q b s.btt)) e);
      whole = promoted-cell r b u listed;
      down = down-on _ _ _ (devices_of m s.dram);
      owed = λ other. waiting-cell r b u listed other ∙ waiting-with r b s.btt;
      owed_copied = λ e. copied_less r b s e listed (first_waits b s e);
    }

-- so it stored, or made a copy first
module _ (b : ℕ) (block : Block) (s : State) (m : Device) (t : State) (n : Device) (sized : IsSized s m) (up : m.down ≡ false)
    (stays : Stays s m t n) where
  ready-same : (r : StoreRule) → AreCounted r s m t n → (holding_of t n).ready ≡ (holding_of s m).ready
  ready-same r c =
      ap (λ (k : ℕ). k == 0 && not n.down) c.whole
      ∙ ap (λ (d : Bool). promoted s.ptt == 0 && not d) c.down

  is_stored : (r : StoreRule) → r ≢ PendingFirst → AreCounted r s m t n → PutsWork Done b block s m t n
      → IsStored b block (holding_of s m) (holding_of t n)
  is_stored r other c w = record {
    blocks = works-done s m t n sized up c.down stays b block w;
    free = c.free;
    ready = ready-same r c;
    closed = λ o. refl;
    owed = λ o. omega (arith, c.owed other);
  }

  HasStored-by : (r : StoreRule) → AreCounted r s m t n → PutsWork (answer_of r) b block s m t n
      → HasStored (answer_of r) b block (holding_of s m) (holding_of t n)
  HasStored-by PendingFirst c w = record {
    blocks = works-copied s m t n sized up c.down stays b block w;
    free = omega (arith, c.free_copied refl);
    ready = ready-same PendingFirst c;
    open_page = λ o. inl refl;
    owed = λ o. omega (arith, c.owed_copied refl);
  }
  HasStored-by r c w = is_stored r (λ e. cc) c w

pub stored_by : (b : ℕ) (block : Block) (s : State) (m : Device) (t : State) (n : Device) (r : Result Stored NvmError)
    → OnOk r (t ≡ state_after b block s m) → OnOk r (n ≡ (devices_after b block s m).nvm)
    → IfOk r (λ stored. stored ≡ answer_of (rule_for b s)) → IfOk r (λ stored. PutsWork stored b block s m t n)
    → IsSized s m → m.down ≡ false → 0 < free_count s.btt → Stays s m t n
    → IfOk r (λ stored. HasStored stored b block (holding_of s m) (holding_of t n))
stored_by b block s m t n (Ok x) e f a w sized up room stays =
    let counted : AreCounted (rule_for b s) s m t n
    = subst (λ (y : State). AreCounted (rule_for b s) s m y n) (sym e)
    (subst (λ (y : Device). AreCounted (rule_for b s) s m (state_after b block s m) y) (sym f) (AreCounted-after b block s m room)) in
    subst (λ (y : Stored). HasStored y b block (holding_of s m) (holding_of t n)) (sym a)
    (HasStored-by b block s m t n sized up stays (rule_for b s) counted (subst (λ (y : Stored). PutsWork y b block s m t n) a w))
stored_by b block s m t n (Err x) e f a w sized up room stays = tt

-- a store that succeeded left the NVM up
pub up-stored : (b : ℕ) (block : Block) (s : State) (m n : Device) (r : Result Stored NvmError) → 0 < free_count s.btt → m.down ≡ false
    → OnOk r (n ≡ (devices_after b block s m).nvm) → OnOk r (n.down ≡ false)
up-stored b block s m n (Ok x) room up is = ap (λ (d : Device). d.down) is ∙ (AreCounted-after b block s m room).down ∙ up
up-stored b block s m n (Err e) room up is = tt

-- one action of both devices
dram-after : (b : ℕ) (block : Block) (s : State) (m : Device) → (state_after b block s m).dram ≡ (devices_after b block s m).dram
unfolding state_after
dram-after b block s m = refl

Writes-after : (b : ℕ) (block : Block) (s : State) (m : Device) → AreSoundTables s → b < memory_blocks s.p → StoresFree b s
    → Writes s (devices_of m s.dram) (devices_after b block s m)
unfolding devices_after
Writes-after b block s m t l free = record {
  place = store_place (rule_for b s) (cell_before b s);
  block = put_by (rule_for b s) block (reads s m) (cell_before b s);
  there = IsPlace-store s.p (rule_for b s) (cell_before b s) (IsWithin-before s b t l);
  free = free;
  written = refl;
}

pub once_stored : (b : ℕ) (block : Block) (s : State) (m : Device) (t : State) (n : Device) (r : Result Stored NvmError)
    → OnOk r (t ≡ state_after b block s m) → OnOk r (n ≡ (devices_after b block s m).nvm)
    → OnErr r (t ≡ s) → OnErr r (FailsStore b block s m n)
    → AreSoundTables s → b < memory_blocks s.p → 0 < free_count s.btt → StoresFree b s → IsFramed m n → Stays s m t n → Once s m t n
once_stored b block s m t n (Ok x) e f k g tables l room free framed stays =
    let both : devices_of n t.dram ≡ devices_after b block s m
    = ap (λ (d : Device). devices_of d t.dram) f
    ∙ ap (λ (y : State). devices_of (devices_after b block s m).nvm y.dram) e
    ∙ ap (devices_of (devices_after b block s m).nvm) (dram-after b block s m) in
    record {
      action = inr (inl (subst (λ (d : Devices). Writes s (devices_of m s.dram) d) (sym both) (Writes-after b block s m tables l free)));
      frame = framed;
      stays = stays;
      work = λ j h. subst (λ (y : State). KeepsCheckpointWork (cell_of s j) (cell_of y j)) (sym e) (work-stored b block s m room j);
    }
once_stored b block s m t n (Err x) e f k g tables l room free framed stays = record {
  action = inr (inr (inr (record {
    place = store_place (rule_for b s) (cell_before b s);
    block = put_by (rule_for b s) block (reads s m) (cell_before b s);
    there = IsPlace-store s.p (rule_for b s) (cell_before b s) (IsWithin-before s b tables l);
    in_nvm = g.in_nvm;
    free = free g.in_nvm;
    dram = ap (λ (y : State). y.dram) k;
    failed = g.failed;
  })));
  frame = framed;
  stays = stays;
  work = λ j h. subst (λ (y : State). KeepsCheckpointWork (cell_of s j) (cell_of y j)) (sym k) (work_same (cell_of s j));
}

pub once_loaded : (s : State) (m n : Device) (r : Result Block NvmError)
    → OnOk r (n ≡ m) → OnErr r (HasFailed m n) → IsFramed m n → Stays s m s n → Once s m s n
once_loaded s m n (Ok x) same failed framed stays = record {
  action = inl (ap (λ (d : Device). devices_of d s.dram) same);
  frame = framed;
  stays = stays;
  work = λ j h. work_same (cell_of s j);
}
once_loaded s m n (Err x) same failed framed stays = record {
  action = inr (inr (inl (record { dram = refl; failed = failed })));
  frame = framed;
  stays = stays;
  work = λ j h. work_same (cell_of s j);
}

-- a load leaves the controller, and the NVM if it is up afterwards
pub left_by_load : (s : State) (m n : Device) (r : Result Block NvmError) → OnOk r (n ≡ m) → OnErr r (HasFailed m n) → LeavesAll s m s n
left_by_load s m n (Ok x) same failed = record { control = refl; nvm = λ up. same }
left_by_load s m n (Err x) same failed = record { control = refl; nvm = λ up. absurd (false≢true (sym up ∙ failed.down)) }

-- a store that succeeded made what its rule says
pub made_by_store : (b : ℕ) (block : Block) (s : State) (m : Device) (t : State) (n : Device) (r : Result Stored NvmError)
    → OnOk r (t ≡ state_after b block s m) → OnOk r (n ≡ (devices_after b block s m).nvm)
    → IfOk r (λ stored. stored ≡ answer_of (rule_for b s)) → IfOk r (λ stored. MakesStore b block stored s m t n)
made_by_store b block s m t n (Ok x) tables nvm answers = record { answer = answers; control = tables; nvm = nvm }
made_by_store b block s m t n (Err x) tables nvm answers = tt
