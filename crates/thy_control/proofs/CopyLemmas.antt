-- The copy of a block's pending version: every block after it, and the tables.
use Rattle.std.proofs.Common.{◌≡◌, ◌≢◌, ℕ, ◌+◌, ◌<◌, Bool, true, false, refl, sym, ◌∙◌, ap, subst, inl, arith, Option, Some, None, is_some, List, Result, Ok, Err, OnOk, OnErr, IfOk, rules}
use Rattle.std.proofs.lemmas.List.{length-set}
use Rattle.thy_block.specs.declared.block.Block.{Block}
use Rattle.thy_table.specs.declared.place.Place.{Place}
use Rattle.thy_block.specs.declared.nvm.NvmError.{NvmError}
use Rattle.thy_block.specs.Device.{Device, IsFramed}
use Rattle.thy_block.specs.Geometry.{memory_blocks}
use Rattle.thy_table.specs.Places.{IsPlace}
use Rattle.thy_table.specs.Devices.{Devices, devices_of}
use Rattle.thy_table.proofs.MoveLemmas.{AreSized-written_at}
use Rattle.thy_table.specs.Listing.{Listing, IsListing, entry_at, passes, index_of, with_entry}
use Rattle.thy_table.proofs.FirstLemmas.{first_from-first, none-first_from}
use Rattle.thy_table.specs.declared.block_entry.BttEntry.{BttEntry}
use Rattle.thy_table.specs.declared.block_entry.Pending.{Pending}
use Rattle.thy_table.specs.declared.block_entry.Pending.TheVariants.{Settled}
use Rattle.thy_table.specs.BlockEntry.{new_entry}
use Rattle.thy_table.specs.declared.cell.Cell.{Cell}
use Rattle.thy_table.specs.Cells.{Seat, seat_of, placed, target, last}
use Rattle.thy_table.specs.Sound.{IsSoundCell}
use Rattle.thy_table.specs.Rules.{after_copy}
use Rattle.thy_table.specs.BetweenCheckpoints.{CopyKeeps, Keeps}
use Rattle.thy_table.proofs.StoreLemmas.{IsSoundCell-after_copy}
use Rattle.thy_control.specs.Keys.{block_key}
use Rattle.thy_control.specs.State.{State, AreSoundTables, IsSized, cell_of, reads}
use Rattle.thy_control.specs.Copies.{is_pending, needs_copy, next_copy, copies_left, block_in, block_listed, devices_copied, copied, devices_after_copy, after_next_copy, FailsCopy, FailsNextCopy}
use Rattle.thy_control.specs.Moves.{moved, IsOneLess}
use Rattle.thy_control.specs.Versions.{KeepsAll}
use Rattle.thy_control.proofs.FindLemmas.{found_entry, stands_at, entry_for-there, by_number}
use Rattle.thy_control.proofs.StateLemmas.{block-cell_of, IsPlace-target, IsWithin-cell_of, index_of-index, cell-set_block_same, cell-set_block_other}
use Rattle.thy_control.proofs.CountLemmas.{count-set_less}
use Rattle.thy_control.proofs.TablesLemmas.{owner, Owns-cell_of, owned-target}
use Rattle.thy_control.proofs.StepLemmas.{KeepsEach, Keeps-untouched, reads_after, puts, untouched, none-passes, KeepsEach-same, holds-each, KeepsAll-each}
use Rattle.thy_table.specs.declared.block_entry.Version.{Version}
use Rattle.thy_table.specs.declared.page_entry.Site.{Site}
use Rattle.thy_table.specs.declared.page_entry.Site.TheVariants.{AtHome}
use Rattle.thy_control.specs.CheckpointTables.{tables0, tables1, entry_lists}
use Rattle.thy_control.specs.Guarded.{LeavesGuarded}
use Rattle.thy_control.specs.OverCalls.{cell_same, stays_same}
use Rattle.thy_control.specs.Stays.{CellStays, Stays}
use Rattle.thy_control.proofs.StayLemmas.{map-block, StaysTables, LeavesGuarded-step, Stays-step, Stays-failed_step, Outcome-failed}
use Rattle.thy_control.proofs.LiveLemmas.{used-set}
use Rattle.thy_control.proofs.KeepLemmas.{StepOutcome}

-- a version is pending exactly if it is not settled
pub is_pending-not : (q : Pending) → q ≢ Settled → is_pending q ≡ true
is_pending-not q h = grind arith

pub pending-not_settled : (q : Pending) → is_pending q ≡ true → q ≢ Settled
pending-not_settled q h e = grind arith

pub settled_by : (q : Pending) → (q ≢ Settled → ⊥) → q ≡ Settled
settled_by q h = grind arith

-- what has to be copied belongs to a checkpoint under way
pub pending-under_way : (u : Bool) (c : Cell) → IsSoundCell u c → c.entry.pend ≢ Settled → u ≡ true
pending-under_way u c s h = grind (arith, s.pending_moves, s.one)

module _ (b : ℕ) (s : State) (pending : (cell_of s b).entry.pend ≢ Settled) where
  pub listed-pending : index_of block_key b s.btt ≡ Some (cell_of s b).i
  listed-pending = index_of-index block_key new_entry s.btt b (λ e. pending (ap (λ (x : BttEntry). x.pend) e))

  module _ (m : Device) where
    pub cell-copied_same : cell_of (copied b s m) b ≡ after_copy (cell_of s b)
    unfolding copied
    cell-copied_same = cell-set_block_same s b (after_copy (cell_of s b)).entry (block-cell_of s b) listed-pending

    pub cell-copied_other : (k : ℕ) → k ≢ b → cell_of (copied b s m) k ≡ cell_of s k
    unfolding copied
    cell-copied_other k other = cell-set_block_other s b (after_copy (cell_of s b)).entry (block-cell_of s b) listed-pending k other

    -- every block is as it was, but for what was copied
    pub cell-copied : (P : Cell → Cell → Type 0) (k : ℕ) → P (cell_of s b) (after_copy (cell_of s b))
        → (k ≢ b → P (cell_of s k) (cell_of s k))
        → P (cell_of s k) (cell_of (copied b s m) k)
    cell-copied P k here others = by_number (λ j. P (cell_of s j) (cell_of (copied b s m) j)) b k
        (subst (P (cell_of s b)) (sym cell-copied_same) here)
        (λ ne. subst (P (cell_of s k)) (sym (cell-copied_other k ne)) (others ne))

    module _ (t : AreSoundTables s) (sized : IsSized s m) (l : b < memory_blocks s.p) where
      sound-copied : (k : ℕ) → k < memory_blocks s.p
          → IsSoundCell s.under_way (cell_of (copied b s m) k)
      sound-copied k h =
          cell-copied (λ c d. IsSoundCell s.under_way c → IsSoundCell s.under_way d) k
          (λ sound. IsSoundCell-after_copy s.under_way (cell_of s b) sound) (λ ne sound. sound)
          (t.cells k h)

      pub AreSoundTables-copied : IsListing block_key (copied b s m).btt → AreSoundTables (copied b s m)
      unfolding copied devices_copied
      AreSoundTables-copied once =
          let sizes = AreSized-written_at s.p (devices_of m s.dram) (target (cell_of s b)) (reads s m (last (cell_of s b)))
          (record { nvm = sized.nvm; dram = t.dram_size }) in
          search (
            rules,
            length-set s.btt.entries (cell_of s b).i (Some (after_copy (cell_of s b)).entry)
                ∙ t.btt_size,
            once,
            used-set s.btt (cell_of s b).i (after_copy (cell_of s b)).entry
                (found_entry block_key new_entry s.btt b (cell_of s b).i listed-pending).3
                (λ v0 v1. absurd ((t.cells b l).pending_moves pending (v0 ∙ sym v1))) t.live_blocks,
            sizes.dram,
            sound-copied,
          )

      -- every block is kept by the copy of a pending one
      pub KeepsEach-copied : CopyKeeps → KeepsEach s m (copied b s m) (devices_copied b s m).nvm
      unfolding copied devices_copied
      KeepsEach-copied law k h =
          let c : Cell = cell_of s b in
          let y : Place = target c in
          let v : Block = reads s m (last c) in
          let w = IsWithin-cell_of s b t l in
          let there : IsPlace s.p y = IsPlace-target s.p c w in
          let owns : owner s y ≡ Some b = owned-target s b c (Owns-cell_of s b) in
          let old : Place → Block = reads s m in
          let new : Place → Block = reads_after s m b y v t sized there owns in
          let moving : s.under_way ≡ true = pending-under_way s.under_way c (t.cells b l) pending in
          let here : Keeps s.under_way old new c (after_copy c)
          = subst (λ (u : Bool). Keeps u old new c (after_copy c)) (sym moving)
          (law s.p c old new w (subst (λ (u : Bool). IsSoundCell u c) moving (t.cells b l)) pending (puts s m b y v t sized there owns)) in
          cell-copied (λ c d. Keeps s.under_way old new c d) k here
          (λ ne. Keeps-untouched s.under_way old new k (cell_of s k) (t.cells k h) (untouched s m b y v t sized there owns k h ne))

-- what is left to copy falls by one
module _ (b : ℕ) (s : State) (m : Device) (pending : (cell_of s b).entry.pend ≢ Settled) where
  pub copies_left-copied : copies_left (copied b s m) + 1 ≡ copies_left s
  unfolding copied
  copies_left-copied =
      let there = stands_at block_key new_entry s.btt b (cell_of s b).i
      (listed-pending b s pending) in
      count-set_less (passes needs_copy) s.btt.entries (cell_of s b).i
      (Some (after_copy (cell_of s b)).entry) None there.1 refl
      (ap (passes needs_copy) there.0 ∙ is_pending-not (cell_of s b).entry.pend pending)

-- what is known of the entry whose copy is next
pub record IsNext (s : State) (b : ℕ) : Type 0 where
  pub inside : b < memory_blocks s.p
  pub pending : (cell_of s b).entry.pend ≢ Settled

pub IsNext-entry : (s : State) → AreSoundTables s → (i : ℕ) → next_copy s ≡ Some i → IsNext s (block_listed i s)
IsNext-entry s t i h = by_entry (entry_at s.btt i) refl (first_from-first (passes needs_copy) None s.btt.entries 0 i h).here where
  by_entry : (o : Option BttEntry) → entry_at s.btt i ≡ o → passes needs_copy o ≡ true → IsNext s (block_listed i s)
  by_entry None e p = cc
  by_entry (Some x) e p =
      let there = entry_for-there block_key new_entry s.btt t.btt_once i x e in
      subst (λ (b : ℕ). IsNext s b) (sym (ap block_in e)) (record {
        inside = omega (arith, there.2, t.btt_numbers);
        pending = pending-not_settled (cell_of s x.block).entry.pend (ap needs_copy there.1 ∙ p);
      })

-- if none is next, none is left
pub none_left : (s : State) → next_copy s ≡ None → copies_left s ≡ 0
none_left s h = none-passes (passes needs_copy) s.btt.entries None
    (λ k l. none-first_from (passes needs_copy) None s.btt.entries 0 h k (omega arith) l)

-- after the next copy, or none, every block is kept
pub KeepsEach-next : CopyKeeps → (s : State) (m : Device) → AreSoundTables s → IsSized s m → (o : Option ℕ) → next_copy s ≡ o
    → KeepsEach s m (after_next_copy o s m) (devices_after_copy o s m)
KeepsEach-next law s m t sized None h = KeepsEach-same s m t
KeepsEach-next law s m t sized (Some i) h =
    let next = IsNext-entry s t i h in
    KeepsEach-copied (block_listed i s) s next.pending m t sized next.inside law

same_p-next : (s : State) (m : Device) (o : Option ℕ) → (after_next_copy o s m).p ≡ s.p
unfolding copied
same_p-next s m None = refl
same_p-next s m (Some i) = refl

-- the next copy, or none, keeps both checkpoints, what a load gives, and what the places hold
pub KeepsAll-next : CopyKeeps → (s : State) (m : Device) → AreSoundTables s → IsSized s m
    → KeepsAll s m (after_next_copy (next_copy s) s m) (devices_after_copy (next_copy s) s m)
KeepsAll-next law s m t sized =
    KeepsAll-each s m (after_next_copy (next_copy s) s m) (devices_after_copy (next_copy s) s m) (same_p-next s m (next_copy s))
    (KeepsEach-next law s m t sized (next_copy s) refl)

-- one copy less is left
pub copies_left-next : (s : State) (m : Device) → AreSoundTables s → (o : Option ℕ) → next_copy s ≡ o
    → IsOneLess (is_some o) (copies_left s) (copies_left (after_next_copy o s m))
copies_left-next s m t None h = (none_left s h, none_left s h)
copies_left-next s m t (Some i) h = copies_left-copied (block_listed i s) s m (IsNext-entry s t i h).pending

pub left_after : (s : State) (m : Device) (t : State) → AreSoundTables s → (r : Result Bool NvmError)
    → OnOk r (t ≡ after_next_copy (next_copy s) s m) → IfOk r (λ more. more ≡ is_some (next_copy s))
    → IfOk r (λ more. IsOneLess more (copies_left s) (copies_left t))
left_after s m t tables r e f = search (rules, copies_left-next s m tables (next_copy s) refl)

-- the parts of the code's way: the state as its fields have it
module _ {s w : State} (view : w ≡ s) (b : ℕ) (m : Device) {found : Cell}
    (is : found ≡ cell_of s b) where
  pub devices_are : {from to : Place} {d : Devices} → from ≡ last found → to ≡ target found
      → d ≡ moved w.p from to (devices_of m w.dram) → d ≡ devices_copied b s m
  unfolding devices_copied
  devices_are from_is to_is d_is = cc

  pub state_is : {after : Cell} {t : Listing BttEntry} {d : Devices} → after ≡ after_copy found
      → t ≡ with_entry found.i (Some after.entry) w.btt → d ≡ devices_copied b s m
      → record w { btt = t; dram = d.dram } ≡ copied b s m
  unfolding copied
  state_is after_is t_is d_is = cc

-- the places of two versions of a block are different, if no checkpoint has its page at the alternate place
pub versions_apart : (v w : Version) (p q : Site) (x : Seat) → v ≢ w → p ≡ AtHome → q ≡ AtHome → placed v p x ≢ placed w q x
versions_apart v w p q x other hp hq e = grind arith

module _ (b : ℕ) (s : State) (m : Device) (pending : (cell_of s b).entry.pend ≢ Settled) where
  stays_tables : StaysTables s (copied b s m)
  unfolding copied
  stays_tables = record {
    same_p = refl;
    same_way = refl;
    tables0_same = ap (λ (x : List (Option ℕ)). record (tables0 s) { btt = x })
        (map-block (λ e. entry_lists e.v0 e.block) s b (after_copy (cell_of s b)).entry (listed-pending b s pending) refl);
    tables1_same = ap (λ (x : List (Option ℕ)). record (tables1 s) { btt = x })
        (map-block (λ e. entry_lists e.v1 e.block) s b (after_copy (cell_of s b)).entry (listed-pending b s pending) refl);
    lasts_same = refl;
    cells = λ k l. cell-copied b s pending m CellStays k
        (record { penult_same = refl; target_same = refl; settled = λ h. refl; busy_before = λ h. h; issued = omega arith })
        (λ ne. cell_same (cell_of s k));
  }

  module _ (t : AreSoundTables s) (sized : IsSized s m) (l : b < memory_blocks s.p) where
    guarded_by : (n : Device)
        → StepOutcome s (target (cell_of s b)) (reads s m (last (cell_of s b))) m n
        → LeavesGuarded s m n
    guarded_by n outcome =
        let c : Cell = cell_of s b in
        let sound = t.cells b l in
        LeavesGuarded-step s (target c) (reads s m (last c)) m n b t (IsPlace-target s.p c (IsWithin-cell_of s b t l))
        (owned-target s b c (Owns-cell_of s b))
        (versions_apart c.entry.v0 c.entry.v1 c.page.place c.page.target (seat_of c) (sound.pending_moves pending)
        (sound.pending_still pending) (sound.pending_home pending))
        (λ placed same. pending placed.copied) outcome

    pub Stays-copied : CopyKeeps → m.down ≡ false → IsFramed m (devices_copied b s m).nvm
        → Stays s m (copied b s m) (devices_copied b s m).nvm
    unfolding devices_copied
    Stays-copied law up framed =
        let c : Cell = cell_of s b in
        let each : KeepsEach s m (copied b s m) (devices_copied b s m).nvm = KeepsEach-copied b s pending m t sized l law in
        Stays-step s (target c) (reads s m (last c)) m (copied b s m) (IsPlace-target s.p c (IsWithin-cell_of s b t l)) sized stays_tables
        (λ d. let no : true ≡ false = sym d ∙ up in cc) framed
        (guarded_by (devices_copied b s m).nvm (inl refl))
        (λ k h. (each k h).reads.penult_same)
        (λ hold. record {
          holds = holds-each s m (copied b s m) (devices_copied b s m).nvm stays_tables.same_p each hold;
          last_same = λ k h. (each k h).reads.last_same;
        })

    pub Stays-not_copied : (n : Device) → FailsCopy b s m n → IsFramed m n → Stays s m s n
    Stays-not_copied n failed framed =
        let f = Outcome-failed s (last (cell_of s b)) (target (cell_of s b)) m n failed in
        Stays-failed_step s m n framed f.1 (guarded_by n f.0)

-- the next copy, or none, keeps what stays over calls, whichever way it ended
Stays-next : CopyKeeps → (s : State) (m : Device) → AreSoundTables s → IsSized s m → m.down ≡ false → (o : Option ℕ) → next_copy s ≡ o
    → IsFramed m (devices_after_copy o s m) → Stays s m (after_next_copy o s m) (devices_after_copy o s m)
Stays-next law s m t sized up None h framed = stays_same s m
Stays-next law s m t sized up (Some i) h framed =
    let next = IsNext-entry s t i h in
    Stays-copied (block_listed i s) s m next.pending t sized next.inside law up framed

pub stays_by : CopyKeeps → (s : State) (m : Device) (t : State) (n : Device) (r : Result Bool NvmError) → AreSoundTables s → IsSized s m
    → m.down ≡ false
    → OnOk r (t ≡ after_next_copy (next_copy s) s m) → OnOk r (n ≡ devices_after_copy (next_copy s) s m)
    → OnErr r (t ≡ s) → OnErr r (FailsNextCopy s m n) → IsFramed m n → Stays s m t n
stays_by law s m t n (Ok more) tables sized up e f k g framed =
    subst (λ (y : State). Stays s m y n) (sym e) (subst (λ (y : Device). Stays s m (after_next_copy (next_copy s) s m) y) (sym f)
    (Stays-next law s m tables sized up (next_copy s) refl (subst (λ (y : Device). IsFramed m y) f framed)))
stays_by law s m t n (Err x) tables sized up e f k g framed =
    let next = IsNext-entry s tables g.entry g.next in
    subst (λ (y : State). Stays s m y n) (sym k)
    (Stays-not_copied (block_listed g.entry s) s m next.pending tables sized next.inside n g.fails framed)
