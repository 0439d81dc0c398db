-- The cell of a block: what it is of, and that its places are there; and the cells of all blocks after a store of one.
use Rattle.std.proofs.Common.{◌≡◌, ℕ, ◌<◌, Bool, true, false, if◌then◌else◌, length, refl, arith, ◌≤◌, subst, sym, ◌≢◌, ◌⊎◌, ◌∙◌, ap, inl, inr, Option, Some, None, unwrap_or, rules}
use Rattle.thy_block.specs.declared.parameters.Parameters.{Parameters}
use Rattle.thy_table.specs.declared.place.Place.{Place}
use Rattle.thy_block.specs.Geometry.{IsInRange, memory_blocks}
use Rattle.thy_table.specs.Places.{IsPlace}
use Rattle.thy_block.specs.Store.{page_of}
use Rattle.thy_block.proofs.RangeLemmas.{btt_least}
use Rattle.thy_table.specs.declared.block_entry.Version.{Version}
use Rattle.thy_table.specs.declared.block_entry.Version.TheVariants.{Out, Alt}
use Rattle.thy_table.specs.declared.block_entry.Pending.{Pending}
use Rattle.thy_table.specs.declared.block_entry.Pending.TheVariants.{Settled, FromBuffer}
use Rattle.thy_table.specs.declared.block_entry.Working.{Working}
use Rattle.thy_table.specs.declared.block_entry.Working.TheVariants.{NoWork, InNvm, InBuffer}
use Rattle.thy_table.specs.declared.page_entry.Site.{Site}
use Rattle.thy_table.specs.declared.page_entry.Site.TheVariants.{AtHome, AtAlternate}
use Rattle.thy_table.specs.BlockEntry.{new_entry, other_version}
use Rattle.thy_table.specs.PageEntry.{no_page, is_framed}
use Rattle.thy_table.specs.declared.cell.Cell.{Cell}
use Rattle.thy_table.specs.declared.cell.StoreRule.{StoreRule}
use Rattle.thy_table.specs.declared.cell.StoreRule.TheVariants.{ToFrame, ToBuffer, ToNvm, PendingFirst}
use Rattle.thy_table.specs.Cells.{Seat, seat_of, frame_at, placed, pending_at, worked_at, penult, target, last, work}
use Rattle.thy_table.specs.Sound.{IsWithin, IsSoundCell, IsWhole}
use Rattle.thy_table.specs.Rules.{store_place, store_rule, after_store}
use Rattle.thy_control.specs.Keys.{block_key, page_key}
use Rattle.thy_control.specs.State.{State, AreSoundTables, cell_of}
use Rattle.thy_control.proofs.FindLemmas.{key-entry_for, index_for-inside, found_entry, entry_for-none, index_of-with_same, index_of-set, entry_for-set_same, entry_for-set_other, by_entry_for, entry_for-new, index_of-new_other, by_number}
use Rattle.std.proofs.lemmas.Bool.{cases_eq}
use Rattle.thy_table.specs.Listing.{Listing, entry_at, index_of, free_index, with_entry}
use Rattle.thy_table.specs.declared.block_entry.BttEntry.{BttEntry}
use Rattle.thy_table.specs.declared.page_entry.PttEntry.{PttEntry}
use Rattle.thy_table.specs.Checkpoint.{with_dirty}
use Rattle.thy_table.proofs.StoreLemmas.{IsSoundCell-dirty, IsSoundCell-after_store}
use Rattle.thy_control.specs.Find.{entry_for, index_for}
use Rattle.thy_control.specs.StoredTables.{btt_with}
use Rattle.thy_control.specs.Rules.{with_block, with_cell, rule_for}

-- what holds of two things holds of two that are equal to them
pub subst_two : {A B : Type 0} (P : A → B → Type 0) {a b : A} {x y : B} → b ≡ a → y ≡ x → P a x
    → P b y
subst_two P {b = b} {x = x} e f h = subst (P b) (sym f) (subst (λ a. P a x) (sym e) h)

IsPlace-frame : (p : Parameters) (x : Seat) → IsWithin p x → IsPlace p (frame_at x)
IsPlace-frame p x w = (w.page, omega arith)

pub IsPlace-placed : (p : Parameters) (v : Version) (s : Site) (x : Seat) → IsWithin p x → IsPlace p (placed v s x)
IsPlace-placed p Alt s x w = w.entry
IsPlace-placed p Out AtAlternate x w = (w.page, omega arith)
IsPlace-placed p Out AtHome x w = w.block

IsPlace-pending : (p : Parameters) (q : Pending) (v : Version) (s : Site) (x : Seat) → IsWithin p x → IsPlace p (pending_at q v s x)
IsPlace-pending p Settled v s x w = IsPlace-placed p v s x w
IsPlace-pending p q v s x w = w.entry

IsPlace-if : (p : Parameters) (t : Bool) (x y : Place) → IsPlace p x → IsPlace p y → IsPlace p (if t then x else y)
IsPlace-if p true x y hx hy = hx
IsPlace-if p false x y hx hy = hy

-- the places of a cell's versions are there
pub IsPlace-penult : (p : Parameters) (c : Cell) → IsWithin p (seat_of c) → IsPlace p (penult c)
IsPlace-penult p c w = IsPlace-placed p c.entry.v0 c.page.place (seat_of c) w

pub IsPlace-target : (p : Parameters) (c : Cell) → IsWithin p (seat_of c) → IsPlace p (target c)
IsPlace-target p c w = IsPlace-placed p c.entry.v1 c.page.target (seat_of c) w

pub IsPlace-last : (p : Parameters) (c : Cell) → IsWithin p (seat_of c) → IsPlace p (last c)
IsPlace-last p c w =
    IsPlace-if p c.page.busy _ _ (IsPlace-frame p (seat_of c) w) (IsPlace-pending p c.entry.pend c.entry.v1 c.page.target (seat_of c) w)

IsPlace-worked : (p : Parameters) (k : Working) (framed : Bool) (place : Place) (v : Version) (x : Seat) → IsWithin p x → IsPlace p place
    → IsPlace p (worked_at k framed place v x)
IsPlace-worked p NoWork framed place v x w h = IsPlace-if p framed _ _ (IsPlace-frame p x w) h
IsPlace-worked p InNvm framed place v x w h = IsPlace-placed p (other_version v) AtHome x w
IsPlace-worked p InBuffer framed place v x w h = w.entry

pub IsPlace-work : (p : Parameters) (c : Cell) → IsWithin p (seat_of c) → IsPlace p (work c)
IsPlace-work p c w = IsPlace-worked p c.entry.work (is_framed c.page) (last c) c.entry.v0 (seat_of c) w (IsPlace-last p c w)

-- the place that a cell's store goes to is one of its device
pub IsPlace-store : (p : Parameters) (rule : StoreRule) (c : Cell) → IsWithin p (seat_of c) → IsPlace p (store_place rule c)
IsPlace-store p ToFrame c w = IsPlace-frame p (seat_of c) w
IsPlace-store p ToBuffer c w = w.entry
IsPlace-store p ToNvm c w = IsPlace-placed p (other_version c.entry.v0) AtHome (seat_of c) w
IsPlace-store p PendingFirst c w = IsPlace-target p c w

-- a cell is of its block and page
pub block-cell_of : (s : State) (b : ℕ) → (cell_of s b).entry.block ≡ b
block-cell_of s b = key-entry_for block_key new_entry (λ n. refl) s.btt b

pub page-cell_of : (s : State) (b : ℕ) → (cell_of s b).page.page ≡ page_of b
page-cell_of s b = key-entry_for page_key no_page (λ n. refl) s.ptt (page_of b)

pub ptt_least : (p : Parameters) → IsInRange p → 8 ≤ p.ptt
ptt_least p r = r.1.1.1.1.1.0.0.0

-- the entries of a block's cell are within their tables, and the block is within memory
pub IsWithin-cell_of : (s : State) (b : ℕ) → AreSoundTables s → b < memory_blocks s.p → IsWithin s.p (seat_of (cell_of s b))
IsWithin-cell_of s b t l =
    let some_blocks : 0 < length s.btt.entries = omega (arith, btt_least s.p t.range, t.btt_size) in
    let some_pages : 0 < length s.ptt.entries = omega (arith, ptt_least s.p t.range, t.ptt_size) in
    record {
      entry = omega (arith, t.btt_size, index_for-inside block_key new_entry s.btt b some_blocks);
      page = omega (arith, t.ptt_size, index_for-inside page_key no_page s.ptt (page_of b) some_pages);
      block = omega (arith, block-cell_of s b);
    }

-- ---- the cells of all blocks after a store of one

-- soundness does not look at places in the tables
pub IsSoundCell-moved : (u : Bool) (c : Cell) (i : ℕ) → IsSoundCell u c → IsSoundCell u (record c { i = i })
IsSoundCell-moved u c i s = search rules

-- what holds of the block table, and with a new entry in its lowest free place, holds with what a
-- rule adds
pub btt_with-by : (P : Listing BttEntry → Type 0) (r : StoreRule) (b : ℕ) (t : Listing BttEntry)
    → P t
    → ((i : ℕ) → index_of block_key b t ≡ None → free_index t ≡ Some i
    → P (with_entry i (Some (new_entry b)) t)) → P (btt_with r b t)
btt_with-by P ToFrame b t same put = same
btt_with-by P PendingFirst b t same put = same
btt_with-by P r b t same put = by_entry_for block_key new_entry P t b same put

module _ (rule : StoreRule) (b : ℕ) (s : State) where
  -- an entry for a block leaves every block its entries
  pub entry-with_block : (m : ℕ) → entry_for block_key new_entry m (btt_with rule b s.btt) ≡ entry_for block_key new_entry m s.btt
  entry-with_block m =
      btt_with-by (λ t. entry_for block_key new_entry m t ≡ entry_for block_key new_entry m s.btt)
      rule b s.btt refl
      (λ i h f. entry_for-new block_key new_entry (λ n. refl) s.btt b i h f m)

  place-with_block : (m : ℕ) → m ≢ b → index_of block_key m (btt_with rule b s.btt) ≡ index_of block_key m s.btt
  place-with_block m other =
      btt_with-by (λ t. index_of block_key m t ≡ index_of block_key m s.btt) rule b s.btt refl
      (λ i h f. index_of-new_other block_key new_entry (λ n. refl) s.btt b i h f m other)

  -- an entry for a block leaves every other block its cell
  pub cell-with_block_other : (m : ℕ) → m ≢ b → cell_of (with_block rule b s) m ≡ cell_of s m
  cell-with_block_other m other =
      ap (λ (e : BttEntry). record (cell_of (with_block rule b s) m) { entry = e }) (entry-with_block m)
      ∙ ap (λ (o : Option ℕ). record (cell_of s m) { i = unwrap_or o 0 }) (place-with_block m other)

  -- an entry for a block leaves the block its cell but for the place
  pub cell-with_block_same : cell_of (with_block rule b s) b
      ≡ record (cell_of s b) { i = index_for block_key new_entry b (btt_with rule b s.btt) }
  cell-with_block_same =
      ap (λ (e : BttEntry). record (cell_of (with_block rule b s) b) { entry = e }) (entry-with_block b)

  -- every block stays sound when a block gets an entry
  pub sound-with_block : (m : ℕ) → IsSoundCell s.under_way (cell_of s m) → IsSoundCell s.under_way (cell_of (with_block rule b s) m)
  sound-with_block m =
      by_number (λ k. IsSoundCell s.under_way (cell_of s k)
      → IsSoundCell s.under_way (cell_of (with_block rule b s) k)) b m
      (λ sound. subst (IsSoundCell s.under_way) (sym cell-with_block_same)
      (IsSoundCell-moved s.under_way (cell_of s b)
      (index_for block_key new_entry b (btt_with rule b s.btt)) sound))
      (λ o sound. subst (IsSoundCell s.under_way) (sym (cell-with_block_other m o)) sound)

  -- the rule of a block's store is the same with its entry
  pub rule-with_block : store_rule (cell_of (with_block rule b s) b) ≡ rule_for b s
  unfolding rule_for
  rule-with_block = ap store_rule cell-with_block_same

-- the entry that a rule changes is listed
pub record IsListed (rule : StoreRule) (b : ℕ) (t : State) : Type 0 where
  pub block : (rule ≢ ToFrame) → index_of block_key b t.btt ≡ Some (cell_of t b).i
  pub page : (rule ≡ ToFrame) → index_of page_key (page_of b) t.ptt ≡ Some (cell_of t b).j

-- a block whose entry is not a new one is listed
module _ {E : Type 0} (key : E → ℕ) (new : ℕ → E) (t : Listing E) (n : ℕ) where
  pub index_of-index : (entry_for key new n t ≡ new n → ⊥) → index_of key n t ≡ Some (index_for key new n t)
  index_of-index not_new = by_place (index_of key n t) refl where
    by_place : (o : Option ℕ) → index_of key n t ≡ o → index_of key n t ≡ Some (index_for key new n t)
    by_place None h = absurd (not_new (entry_for-none key new t n h))
    by_place (Some i) h = h ∙ ap (λ o. Some (unwrap_or o 0)) (sym h)

-- facts of the rules that name a listed entry
pub frame_is_framed : (c : Cell) → store_rule c ≡ ToFrame → is_framed c.page ≡ true
frame_is_framed c e = grind arith

pub first_is_pending : (c : Cell) → store_rule c ≡ PendingFirst → c.entry.pend ≡ FromBuffer
first_is_pending c e = grind arith

pub IsListed-with_block : (rule : StoreRule) (b : ℕ) (s : State) → rule_for b s ≡ rule → (free_index s.btt ≡ None → ⊥)
    → IsListed rule b (with_block rule b s)
unfolding rule_for
IsListed-with_block ToFrame b s is some = record {
  block = λ n. absurd (n refl);
  page = λ _. index_of-index page_key no_page s.ptt (page_of b)
      (λ e. let framed : is_framed (cell_of s b).page ≡ true = frame_is_framed (cell_of s b) is in
      let bare : is_framed (cell_of s b).page ≡ false = ap is_framed e in cc);
}
IsListed-with_block PendingFirst b s is some = record {
  block = λ _. index_of-index block_key new_entry s.btt b
      (λ e. let pending : (cell_of s b).entry.pend ≡ FromBuffer = first_is_pending (cell_of s b) is in
      let settled : (cell_of s b).entry.pend ≡ Settled = ap (λ (x : BttEntry). x.pend) e in cc);
  page = λ e. cc;
}
IsListed-with_block rule b s is some =
    let f = index_of-with_same block_key new_entry (λ n. refl) s.btt b some in
    record { block = λ _. f.1 ∙ ap (λ o. Some (unwrap_or o 0)) (sym f.1); page = λ e. cc }

-- the cells after an entry of the block table was changed
module _ (t : State) (b : ℕ) (e : BttEntry) (of_block : e.block ≡ b) (listed : index_of block_key b t.btt ≡ Some (cell_of t b).i) where
  there : (old : BttEntry) × (entry_at t.btt (cell_of t b).i ≡ Some old) × (old.block ≡ b) × ((cell_of t b).i < length t.btt.entries)
  there = found_entry block_key new_entry t.btt b (cell_of t b).i listed

  same_key : block_key e ≡ block_key there.0
  same_key = of_block ∙ sym there.2

  pub cell-set_block_same : cell_of (record t { btt = with_entry (cell_of t b).i (Some e) t.btt }) b ≡ record (cell_of t b) { entry = e }
  cell-set_block_same =
      ap (λ (o : Option ℕ). record (cell_of (record t { btt = with_entry (cell_of t b).i (Some e) t.btt }) b) { i = unwrap_or o 0 })
      (index_of-set block_key new_entry t.btt (cell_of t b).i there.0 e there.1 same_key there.3 b)
      ∙ ap (λ (x : BttEntry). record (cell_of t b) { entry = x })
      (entry_for-set_same block_key new_entry t.btt (cell_of t b).i there.0 e there.1 same_key there.3 b listed)

  pub cell-set_block_other : (m : ℕ) → m ≢ b → cell_of (record t { btt = with_entry (cell_of t b).i (Some e) t.btt }) m ≡ cell_of t m
  cell-set_block_other m other =
      ap (λ (o : Option ℕ). record (cell_of (record t { btt = with_entry (cell_of t b).i (Some e) t.btt }) m) { i = unwrap_or o 0 })
      (index_of-set block_key new_entry t.btt (cell_of t b).i there.0 e there.1 same_key there.3 m)
      ∙ ap (λ (x : BttEntry). record (cell_of t m) { entry = x })
      (entry_for-set_other block_key new_entry t.btt (cell_of t b).i there.0 e there.1 same_key there.3 m (λ q. other (q ∙ there.2)))

-- and after one of the page table was
module _ (t : State) (b : ℕ) (e : PttEntry) (of_page : e.page ≡ page_of b)
    (listed : index_of page_key (page_of b) t.ptt ≡ Some (cell_of t b).j) where
  page_there : (old : PttEntry) × (entry_at t.ptt (cell_of t b).j ≡ Some old) × (old.page ≡ page_of b)
      × ((cell_of t b).j < length t.ptt.entries)
  page_there = found_entry page_key no_page t.ptt (page_of b) (cell_of t b).j listed

  same_page_key : page_key e ≡ page_key page_there.0
  same_page_key = of_page ∙ sym page_there.2

  pub cell-set_page_same : (m : ℕ) → page_of m ≡ page_of b
      → cell_of (record t { ptt = with_entry (cell_of t b).j (Some e) t.ptt }) m ≡ record (cell_of t m) { page = e }
  cell-set_page_same m q =
      ap (λ (o : Option ℕ). record (cell_of (record t { ptt = with_entry (cell_of t b).j (Some e) t.ptt }) m) { j = unwrap_or o 0 })
      (index_of-set page_key no_page t.ptt (cell_of t b).j page_there.0 e page_there.1 same_page_key page_there.3 (page_of m))
      ∙ ap (λ (x : PttEntry). record (cell_of t m) { page = x })
      (entry_for-set_same page_key no_page t.ptt (cell_of t b).j page_there.0 e page_there.1 same_page_key page_there.3 (page_of m)
      (ap (λ (n : ℕ). index_of page_key n t.ptt) q ∙ listed))

  pub cell-set_page_other : (m : ℕ) → page_of m ≢ page_of b
      → cell_of (record t { ptt = with_entry (cell_of t b).j (Some e) t.ptt }) m ≡ cell_of t m
  cell-set_page_other m other =
      ap (λ (o : Option ℕ). record (cell_of (record t { ptt = with_entry (cell_of t b).j (Some e) t.ptt }) m) { j = unwrap_or o 0 })
      (index_of-set page_key no_page t.ptt (cell_of t b).j page_there.0 e page_there.1 same_page_key page_there.3 (page_of m))
      ∙ ap (λ (x : PttEntry). record (cell_of t m) { page = x })
      (entry_for-set_other page_key no_page t.ptt (cell_of t b).j page_there.0 e page_there.1 same_page_key page_there.3 (page_of m)
      (λ q. other (q ∙ page_there.2)))

-- after a rule's change of a block, the block itself
pub cell-with_cell_same : (rule : StoreRule) (b : ℕ) (t : State) → IsListed rule b t
    → cell_of (with_cell rule (after_store rule (cell_of t b)) t) b ≡ after_store rule (cell_of t b)
cell-with_cell_same ToFrame b t l = cell-set_page_same t b (record (cell_of t b).page { dirty = true }) (page-cell_of t b) (l.page refl) b refl
cell-with_cell_same r b t l =
    cell-set_block_same t b (after_store r (cell_of t b)).entry (block-cell_of t b)
    (l.block (λ e. cc))

-- another block is as it was, or its page is dirty now
abbrev pub OrDirty : StoreRule → Cell → Cell → Type 0
OrDirty rule c d = (d ≡ c) ⊎ ((rule ≡ ToFrame) × (d ≡ with_dirty c))

pub cell-with_cell_other : (rule : StoreRule) (b : ℕ) (t : State) (m : ℕ) → IsListed rule b t → m ≢ b
    → OrDirty rule (cell_of t m) (cell_of (with_cell rule (after_store rule (cell_of t b)) t) m)
cell-with_cell_other ToFrame b t m l other =
    let e : PttEntry = record (cell_of t b).page { dirty = true } in
    elim (cases_eq (page_of m) (page_of b))
    as (λ _. OrDirty ToFrame (cell_of t m) (cell_of (with_cell ToFrame (after_store ToFrame (cell_of t b)) t) m)) [
      | inl q ↦ inr (
        refl,
        cell-set_page_same t b e (page-cell_of t b) (l.page refl) m q
            ∙ ap (λ (n : ℕ). record (cell_of t m) { page = record (entry_for page_key no_page n t.ptt) { dirty = true } }) (sym q),
      )
      | inr o ↦ inl (cell-set_page_other t b e (page-cell_of t b) (l.page refl) m o)
    ]
cell-with_cell_other r b t m l other =
    inl (cell-set_block_other t b (after_store r (cell_of t b)).entry (block-cell_of t b)
    (l.block (λ e. cc)) m other)

-- every block stays sound when a store changes one block's cell
pub sound-with_cell : (b : ℕ) (t : State) (m : ℕ) → IsListed (store_rule (cell_of t b)) b t → IsWhole (cell_of t b).page
    → IsSoundCell t.under_way (cell_of t b) → IsSoundCell t.under_way (cell_of t m)
    → IsSoundCell t.under_way (cell_of (with_cell (store_rule (cell_of t b)) (after_store (store_rule (cell_of t b)) (cell_of t b)) t) m)
sound-with_cell b t m l whole sound_b sound_m =
    let rule : StoreRule = store_rule (cell_of t b) in
    let new : State = with_cell rule (after_store rule (cell_of t b)) t in
    elim (cases_eq m b) as (λ _. IsSoundCell t.under_way (cell_of new m)) [
      | inl e ↦ subst (λ (k : ℕ). IsSoundCell t.under_way (cell_of new k)) (sym e)
          (subst (λ (c : Cell). IsSoundCell t.under_way c) (sym (cell-with_cell_same rule b t l))
          (IsSoundCell-after_store t.under_way (cell_of t b) sound_b whole))
      | inr o ↦ elim (cell-with_cell_other rule b t m l o) as (λ _. IsSoundCell t.under_way (cell_of new m)) [
        | inl same ↦ subst (λ (c : Cell). IsSoundCell t.under_way c) (sym same) sound_m
        | inr dirty ↦ subst (λ (c : Cell). IsSoundCell t.under_way c) (sym dirty.1) (IsSoundCell-dirty t.under_way true (cell_of t m) sound_m)
      ]
    ]
