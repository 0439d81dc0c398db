-- The copy of a promoted page's next block into its frame: every block after it, and the tables.
use Rattle.thy_control.specs.Seal.{block_is_framed}
use Rattle.thy_control.specs.Overlay.{is_buffered, is_overlaid, overlaid, AreWorkCounts}
use Rattle.thy_control.specs.declared.overlay.WorkCounts.{WorkCounts}
use Rattle.thy_table.specs.BlockEntry.{new_entry}
use Rattle.thy_table.specs.declared.block_entry.BttEntry.{BttEntry}
use Rattle.std.specs.List.{count_by}
use Rattle.std.proofs.Common.{length, ◌≡◌, ◌≢◌, ℕ, ◌+◌, ◌-◌, ◌*◌, ◌<◌, ◌≤◌, ◌%◌, ◌==◌, ◌&&◌, not, if◌then◌else◌, Bool, true, false, List, get_or, refl, sym, ◌∙◌, ap, subst, inl, inr, arith, Option, Some, None, Result, Ok, Err, OnOk, OnErr, [], ◌∷◌, suc}
use Rattle.std.proofs.lemmas.Bool.{cases_eq, and_parts, eqb-true, not-true, both_ways}
use Rattle.std.proofs.lemmas.List.Sums.{sum_by-set, sum_by-cons, get_or-le-sum_by}
use Rattle.thy_table.specs.declared.place.Place.{Place}
use Rattle.thy_block.specs.declared.nvm.NvmError.{NvmError}
use Rattle.thy_block.specs.Device.{Device, IsFramed, zero_block, HasFailed}
use Rattle.thy_block.specs.Geometry.{memory_blocks}
use Rattle.thy_block.specs.Store.{page_of}
use Rattle.thy_block.proofs.BasicLemmas.{not_and}
use Rattle.thy_table.specs.Devices.{Devices, devices_of}
use Rattle.thy_table.proofs.MoveLemmas.{AreSized-written_at}
use Rattle.thy_table.specs.Listing.{Listing, IsListing, entry_at, passes, index_of, with_entry}
use Rattle.thy_table.proofs.IndexLemmas.{one_if}
use Rattle.thy_table.proofs.FirstLemmas.{first_from-first, none-first_from}
use Rattle.thy_table.specs.declared.block_entry.Working.{Working}
use Rattle.thy_table.specs.declared.block_entry.Working.TheVariants.{NoWork}
use Rattle.thy_table.specs.declared.page_entry.PttEntry.{PttEntry}
use Rattle.thy_table.specs.PageEntry.{no_page, is_framed, page_blocks}
use Rattle.thy_table.specs.declared.cell.Cell.{Cell}
use Rattle.thy_table.specs.Cells.{seat_of, frame_at, penult, last, work}
use Rattle.thy_table.specs.Sound.{Holds}
use Rattle.thy_table.specs.Checkpoint.{with_filled}
use Rattle.thy_table.specs.BetweenCheckpoints.{PromotionKeeps, PromotionKeepsOthers, Keeps}
use Rattle.thy_control.specs.Keys.{page_key, block_key}
use Rattle.thy_control.specs.Moves.{moved}
use Rattle.thy_control.specs.State.{State, AreSoundTables, IsSized, cell_of, reads}
use Rattle.thy_control.specs.Stays.{HoldAll, Stays}
use Rattle.thy_control.specs.Versions.{KeepsCheckpoints}
use Rattle.thy_control.specs.Pages.{block_after}
use Rattle.thy_control.specs.Holding.{is_promoted, promoted}
use Rattle.thy_control.specs.Promotions.{next_promotion, fills_left, unfilled, block_to_fill, devices_filled, block_filled, after_promotion, HoldsWork}
use Rattle.thy_control.proofs.FindLemmas.{stands_at, entry_for-there}
use Rattle.thy_control.proofs.StateLemmas.{IsWithin-cell_of}
use Rattle.thy_control.proofs.TablesLemmas.{Owns-cell_of}
use Rattle.thy_control.proofs.PageLemmas.{same_page, cell-page_other}
use Rattle.thy_control.proofs.KeepLemmas.{IsPlace-frame_of}
use Rattle.thy_control.proofs.StepLemmas.{none-passes, listed-page, next-here, next-few, not-next, IsWalk, StaysTables-walked, AreSoundTables-walked, here_now, left_as, Keeps-walked, reads-walked, IsBlockOf-entry}
use Rattle.thy_control.proofs.StayLemmas.{StaysTables, LeavesGuarded-step, Stays-step, Stays-failed_step, penult-in_nvm, target-in_nvm, LeavesGuarded-failed}

abbrev page_filled : PttEntry → PttEntry
page_filled e = record e { filled = e.filled + 1 }

module _ (b : ℕ) (s : State) (fresh : (cell_of s b).page.fresh ≡ true) where
  pub has_page : (cell_of s b).page ≢ no_page (page_of b)
  has_page e = let no : (cell_of s b).page.fresh ≡ false = ap (λ (x : PttEntry). x.fresh) e in both_ways _ no fresh

  pub listed-fresh : index_of page_key (page_of b) s.ptt ≡ Some (cell_of s b).j
  listed-fresh = listed-page b s has_page

  fresh-same : (k : ℕ) → page_of k ≡ page_of b → (cell_of s k).page.fresh ≡ true
  fresh-same k q = ap (λ (x : PttEntry). x.fresh) (same_page s k b q) ∙ fresh

  -- the copy is a step of a page
  walk : (t : AreSoundTables s) → b < memory_blocks s.p → (cell_of s b).page.filled ≡ b % 64 → PromotionKeeps → PromotionKeepsOthers
      → IsWalk page_filled s.under_way b s (work (cell_of s b)) (frame_at (seat_of (cell_of s b)))
  walk t l due law other = record {
    of_page = λ e. refl;
    way = refl;
    has_page = has_page;
    there = IsPlace-frame_of s b t l;
    owns = (Owns-cell_of s b).of_page has_page;
    here = λ old new put. law s.p s.under_way (cell_of s b) old new (IsWithin-cell_of s b t l) (t.cells b l) fresh
        (next-here b s (λ e. e.filled) due) (next-few b s (λ e. e.filled) due b refl) put;
    others = λ k h q ne old new same hold. other s.under_way (cell_of s k) old new (t.cells k h) (fresh-same k q)
        (not-next b s (λ e. e.filled) due k q ne) (next-few b s (λ e. e.filled) due k q) (omega arith) same hold;
  }

module _ (b : ℕ) (s : State) (fresh : (cell_of s b).page.fresh ≡ true) (m : Device) (t : AreSoundTables s) (sized : IsSized s m)
    (l : b < memory_blocks s.p)
    (due : (cell_of s b).page.filled ≡ b % 64) (law : PromotionKeeps) (other : PromotionKeepsOthers) where
  pub AreSoundTables-filled : IsListing page_key (block_filled b s m).ptt → AreSoundTables (block_filled b s m)
  unfolding block_filled devices_filled
  AreSoundTables-filled once =
      let sizes = AreSized-written_at s.p (devices_of m s.dram) (frame_at (seat_of (cell_of s b))) (reads s m (work (cell_of s b)))
      (record { nvm = sized.nvm; dram = t.dram_size }) in
      AreSoundTables-walked (walk b s fresh t l due law other) t (devices_filled b s m).dram sizes.dram (λ bare. fresh) once

module _ (law : PromotionKeeps) (other : PromotionKeepsOthers) (b : ℕ) (s : State) (fresh : (cell_of s b).page.fresh ≡ true) (m : Device)
    (t : AreSoundTables s) (sized : IsSized s m) (l : b < memory_blocks s.p) (due : (cell_of s b).page.filled ≡ b % 64) where
  this : IsWalk page_filled s.under_way b s (work (cell_of s b)) (frame_at (seat_of (cell_of s b)))
  this = walk b s fresh t l due law other

  -- if the places hold what they have to, every block is kept
  Keeps-filled : (k : ℕ) → k < memory_blocks s.p → Holds (reads s m) (cell_of s k)
      → Keeps s.under_way (reads s m) (reads (block_filled b s m) m) (cell_of s k) (cell_of (block_filled b s m) k)
  unfolding block_filled devices_filled
  Keeps-filled k h hold = Keeps-walked this t m sized (devices_filled b s m).dram k h hold

  -- in any case both checkpoints have every block as before
  pub checkpoints-filled : KeepsCheckpoints s m (block_filled b s m) m
  unfolding block_filled devices_filled
  checkpoints-filled =
      let here = (here_now this t m sized).reads in
      record {
        penult_same = λ k h. reads-walked this t m sized penult here.penult_same (λ j i q. refl)
            (λ j i ne. (left_as this t m sized j i ne).penult_same) (devices_filled b s m).dram k h;
        last_same = λ k h. reads-walked this t m sized last here.last_same (λ j i q. refl)
            (λ j i ne. (left_as this t m sized j i ne).last_same) (devices_filled b s m).dram k h;
      }

  pub held-filled : HoldAll s m → HoldsWork s m (block_filled b s m) m
  unfolding block_filled
  held-filled hold = record {
    holds = λ k h. (Keeps-filled k h (hold k h)).holds (hold k h);
    work = record { work_same = λ k h. (Keeps-filled k h (hold k h)).reads.work_gives };
  }

-- one block less is left
fill_one : (fresh : Bool) (i : ℕ) → fresh ≡ true → i < 64
    → (if not (i + 1 == page_blocks) && fresh then page_blocks - (i + 1) else 0) + 1 ≡ page_blocks - i
fill_one false i f l = cc
fill_one true i f l = by_test (i + 1 == page_blocks) refl where
  by_test : (x : Bool) → (i + 1 == page_blocks) ≡ x → (if not x && true then page_blocks - (i + 1) else 0) + 1 ≡ page_blocks - i
  by_test true e = let full : i + 1 ≡ page_blocks = eqb-true (i + 1) page_blocks e in omega (arith, full)
  by_test false e = omega arith

-- a fresh page counts once: as framed if it has a frame, otherwise as a page that is being promoted
one_or : (framed fresh : Bool) → fresh ≡ true → one_if (not framed && fresh) + (if framed then 1 else 0) ≡ 1
one_or framed fresh f = grind arith

module _ (b : ℕ) (s : State) (fresh : (cell_of s b).page.fresh ≡ true) (bare : is_framed (cell_of s b).page ≡ false) where
  pub is_now : is_promoted (cell_of s b).page ≡ true
  is_now = not_and (is_framed (cell_of s b).page) (cell_of s b).page.fresh bare fresh

  found : (entry_at s.ptt (cell_of s b).j ≡ Some (cell_of s b).page)
      × ((cell_of s b).j < length s.ptt.entries)
  found = stands_at page_key no_page s.ptt (page_of b) (cell_of s b).j (listed-fresh b s fresh)

  pub some-promoted : 0 < promoted s.ptt
  some-promoted =
      let one = get_or-le-sum_by (λ (o : Option PttEntry). one_if (passes is_promoted o))
      s.ptt.entries (cell_of s b).j None found.1 in
      let passes_now : passes is_promoted (entry_at s.ptt (cell_of s b).j) ≡ true = ap
      (passes is_promoted) found.0 ∙ is_now in
      omega (arith, one, ap one_if passes_now)

  module _ (m : Device) (less : (cell_of s b).page.filled < 64) where
    pub unfilled-filled : unfilled (block_filled b s m) + 1 ≡ unfilled s
    unfolding block_filled
    unfilled-filled =
        let c : Cell = cell_of s b in
        let was : fills_left (entry_at s.ptt c.j) ≡ page_blocks - c.page.filled
        = ap fills_left found.0
        ∙ ap (λ (x : Bool). if x then page_blocks - c.page.filled else 0) is_now in
        omega (
          arith,
          sum_by-set fills_left s.ptt.entries c.j (Some (page_filled c.page)) None
              found.1,
          was,
          fill_one c.page.fresh c.page.filled fresh less,
        )

    pub promoted-filled : promoted (block_filled b s m).ptt + (if is_framed (page_filled (cell_of s b).page) then 1 else 0) ≡ promoted s.ptt
    unfolding block_filled
    promoted-filled =
        let c : Cell = cell_of s b in
        let passes_now : passes is_promoted (entry_at s.ptt c.j) ≡ true = ap (passes is_promoted)
        found.0 ∙ is_now in
        omega (
          arith,
          sum_by-set (λ (o : Option PttEntry). one_if (passes is_promoted o)) s.ptt.entries c.j
              (Some (page_filled c.page)) None found.1,
          ap one_if passes_now,
          one_or (is_framed (page_filled c.page)) c.page.fresh fresh,
        )

-- lists whose elements pass alike count alike
count-same_at : {X : Type 0} (p q : X → Bool) (d : X) (xs : List X) → ((k : ℕ) → k < length xs → p (get_or xs k d) ≡ q (get_or xs k d))
    → count_by p xs ≡ count_by q xs
count-same_at p q d [] h = refl
count-same_at p q d (x ∷ xs) h =
    omega (
      arith,
      sum_by-cons (λ y. one_if (p y)) x xs,
      sum_by-cons (λ y. one_if (q y)) x xs,
      ap one_if (h 0 (omega arith)),
      count-same_at p q d xs (λ k l. h (suc k) (omega (arith, l))),
    )

-- no block of a page in promotion has work: none lies over its frame, before and after
module _ (b : ℕ) (s : State) (fresh : (cell_of s b).page.fresh ≡ true) (m : Device) (t : AreSoundTables s) where
  framed_other : (k : ℕ) → page_of k ≢ page_of b → block_is_framed (block_filled b s m).ptt k ≡ block_is_framed s.ptt k
  unfolding block_filled
  framed_other k o = ap (λ (c : Cell). is_framed c.page) (cell-page_other page_filled (λ e. refl) s b (listed-fresh b s fresh) k o)

  pub overlaid-filled_at : (i : ℕ)
      → passes (is_overlaid (block_filled b s m).ptt) (entry_at s.btt i) ≡ passes (is_overlaid s.ptt) (entry_at s.btt i)
  overlaid-filled_at i = by_entry (entry_at s.btt i) refl where
    by_entry : (o : Option BttEntry) → entry_at s.btt i ≡ o → passes (is_overlaid (block_filled b s m).ptt) o ≡ passes (is_overlaid s.ptt) o
    by_entry None e = refl
    by_entry (Some x) e = elim (cases_eq (page_of x.block) (page_of b)) as (λ _. is_overlaid (block_filled b s m).ptt x ≡ is_overlaid s.ptt x) [
      | inl q ↦
          let there = entry_for-there block_key new_entry s.btt t.btt_once i x e in
          let idle : x.work ≡ NoWork = sym (ap (λ (y : BttEntry). y.work) there.1)
          ∙ (t.cells x.block (omega (arith, there.2, t.btt_numbers))).fresh_idle
          (fresh-same b s fresh x.block q) in
          ap (λ (w : Working). is_buffered w && block_is_framed (block_filled b s m).ptt x.block) idle
          ∙ sym (ap (λ (w : Working). is_buffered w && block_is_framed s.ptt x.block) idle)
      | inr o ↦ ap (λ (f : Bool). is_buffered x.work && f) (framed_other x.block o)
    ]

  pub overlaid-filled : overlaid (block_filled b s m).ptt s.btt ≡ overlaid s.ptt s.btt
  overlaid-filled = count-same_at (passes (is_overlaid (block_filled b s m).ptt)) (passes (is_overlaid s.ptt)) None s.btt.entries
      (λ i l. overlaid-filled_at i)

-- the numbers that the controller keeps are right after the copy
pub marks-filled : (b : ℕ) (s : State) (fresh : (cell_of s b).page.fresh ≡ true) (m : Device) (t : AreSoundTables s) (k now : WorkCounts)
    → is_framed (cell_of s b).page ≡ false
    → (cell_of s b).page.filled < 64 → AreWorkCounts s.ptt s.btt k → now.overlaid ≡ k.overlaid
    → now.promoted + (if is_framed (with_filled (cell_of s b)).page then 1 else 0) ≡ k.promoted
    → AreWorkCounts (block_filled b s m).ptt (block_filled b s m).btt now
unfolding block_filled
marks-filled b s fresh m t k now bare less marks same_overlaid fewer = record {
  overlaid_is = same_overlaid ∙ marks.overlaid_is ∙ sym (overlaid-filled b s fresh m t);
  promoted_is = omega (arith, fewer, marks.promoted_is, promoted-filled b s fresh bare m less);
}

-- what is known of the next block
pub record IsFill (s : State) (b : ℕ) : Type 0 where
  pub inside : b < memory_blocks s.p
  pub fresh : (cell_of s b).page.fresh ≡ true
  pub bare : is_framed (cell_of s b).page ≡ false
  pub due : (cell_of s b).page.filled ≡ b % 64

pub IsFill-entry : (s : State) → AreSoundTables s → (j : ℕ) → next_promotion s ≡ Some j → IsFill s (block_to_fill j s)
IsFill-entry s t j h = by_entry (entry_at s.ptt j) refl (first_from-first (passes is_promoted) None s.ptt.entries 0 j h).here where
  by_entry : (o : Option PttEntry) → entry_at s.ptt j ≡ o → passes is_promoted o ≡ true → IsFill s (block_to_fill j s)
  by_entry None e p = cc
  by_entry (Some x) e p =
      let both = and_parts (not (is_framed x)) x.fresh p in
      let bare : is_framed x ≡ false = not-true (is_framed x) both.0 in
      let first = IsBlockOf-entry s t j x e 0 (omega arith) in
      let most : x.filled ≤ 64 = subst (λ (y : PttEntry). y.filled ≤ 64) first.page
      (t.cells (page_blocks * x.page + 0) first.inside).of_page.filled in
      let not_full : x.filled ≢ 64 = λ q. both_ways _ bare (ap (λ (n : ℕ). n == page_blocks) q) in
      let of = IsBlockOf-entry s t j x e x.filled (omega (arith, most, not_full)) in
      subst (λ (k : ℕ). IsFill s k) (sym (ap (block_after (λ e. e.filled)) e)) (record {
        inside = of.inside;
        fresh = ap (λ (y : PttEntry). y.fresh) of.page ∙ both.1;
        bare = ap is_framed of.page ∙ bare;
        due = ap (λ (y : PttEntry). y.filled) of.page ∙ of.in_page;
      })

-- a page in promotion moves no place of a checkpoint
module _ (b : ℕ) (s : State) (fresh : (cell_of s b).page.fresh ≡ true) (m : Device) where
  stays_tables : (t : AreSoundTables s) → b < memory_blocks s.p → (cell_of s b).page.filled ≡ b % 64 → PromotionKeeps → PromotionKeepsOthers
      → StaysTables s (block_filled b s m)
  unfolding block_filled
  stays_tables t l due law other = StaysTables-walked (walk b s fresh t l due law other) refl refl
      (λ k q. record { penult_same = refl; target_same = refl; settled = λ h. h; busy_before = λ h. h; issued = omega arith })
      (devices_filled b s m).dram

  pub Stays-filled : (t : AreSoundTables s) → IsSized s m → b < memory_blocks s.p → (cell_of s b).page.filled ≡ b % 64 → PromotionKeeps
      → PromotionKeepsOthers
      → Stays s m (block_filled b s m) m
  Stays-filled t sized l due law other =
      let y : Place = frame_at (seat_of (cell_of s b)) in
      let checkpoints = checkpoints-filled law other b s fresh m t sized l due in
      Stays-step s y zero_block m (block_filled b s m) (IsPlace-frame_of s b t l) sized (stays_tables t l due law other) (λ d. d)
      (record { blocks = refl; left = refl; picks = refl; queue_room = refl; left_room = refl; fits = refl; lent = refl; whole = refl })
      (LeavesGuarded-step s y zero_block m m b t (IsPlace-frame_of s b t l) ((Owns-cell_of s b).of_page (has_page b s fresh))
      (penult-in_nvm s b y refl) (λ q. target-in_nvm s b y refl) (inl refl))
      checkpoints.penult_same
      (λ hold. record { holds = (held-filled law other b s fresh m t sized l due hold).holds; last_same = checkpoints.last_same })

-- what the copy of the next block leaves
pub record KeepsNext (s : State) (m : Device) (t : State) (n : Device) : Type 0 where
  pub left : unfilled t + 1 ≡ unfilled s
  pub checkpoints : KeepsCheckpoints s m t n
  pub held : HoldAll s m → HoldsWork s m t n
  pub stays : Stays s m t n

module _ (law : PromotionKeeps) (other : PromotionKeepsOthers) (s : State) (m : Device) where
  pub KeepsNext-promotion : AreSoundTables s → IsSized s m → 0 < promoted s.ptt → KeepsNext s m (after_promotion (next_promotion s) s m) m
  KeepsNext-promotion t sized some = by_next (next_promotion s) refl where
    by_next : (o : Option ℕ) → next_promotion s ≡ o → KeepsNext s m (after_promotion o s m) m
    by_next None h =
        let none : promoted s.ptt ≡ 0 = none-passes (passes is_promoted) s.ptt.entries None
        (λ k l. none-first_from (passes is_promoted) None s.ptt.entries 0 h k (omega arith) l) in
        absurd (omega (arith, some, none))
    by_next (Some j) h =
        let b : ℕ = block_to_fill j s in
        let f = IsFill-entry s t j h in
        record {
          left = unfilled-filled b s f.fresh f.bare m (omega (arith, f.due));
          checkpoints = checkpoints-filled law other b s f.fresh m t sized f.inside f.due;
          held = held-filled law other b s f.fresh m t sized f.inside f.due;
          stays = Stays-filled b s f.fresh m t sized f.inside f.due law other;
        }

  -- whichever way a call ended
  pub stays_by : (t : State) (n : Device) (r : Result (Unit {0}) NvmError) → AreSoundTables s → IsSized s m → 0 < promoted s.ptt
      → OnOk r (t ≡ after_promotion (next_promotion s) s m) → OnOk r (n ≡ m) → OnErr r (t ≡ s) → OnErr r (HasFailed m n) → IsFramed m n
      → Stays s m t n
  stays_by t n (Ok x) tables sized some e f k g framed =
      subst (λ (y : State). Stays s m y n) (sym e) (subst (λ (y : Device). Stays s m (after_promotion (next_promotion s) s m) y) (sym f)
      (KeepsNext-promotion tables sized some).stays)
  stays_by t n (Err x) tables sized some e f k g framed =
      subst (λ (y : State). Stays s m y n) (sym k)
      (Stays-failed_step s m n framed g.down (LeavesGuarded-failed s m n g))

-- the parts of the code's way: the state as its fields have it
module _ {s w : State} (view : w ≡ s) (b : ℕ) (m : Device) {cell : Cell}
    (is : cell ≡ cell_of s b) where
  pub devices_are : {from to : Place} {d : Devices} → from ≡ work cell
      → to ≡ frame_at (seat_of cell)
      → d ≡ moved w.p from to (devices_of m w.dram) → d ≡ devices_filled b s m
  unfolding devices_filled
  devices_are from_is to_is d_is = cc

  pub state_is : {after : Cell} {t : Listing PttEntry} {d : Devices} → after ≡ with_filled cell
      → t ≡ with_entry cell.j (Some after.page) w.ptt → d ≡ devices_filled b s m
      → record w { ptt = t; dram = d.dram } ≡ block_filled b s m
  unfolding block_filled
  state_is after_is t_is d_is = cc
