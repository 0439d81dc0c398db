-- The write of a busy page's next block: every block after it, and the tables.
use Rattle.std.proofs.Common.{◌≡◌, ◌≢◌, ℕ, ◌+◌, ◌-◌, ◌<◌, ◌≤◌, ◌%◌, ◌==◌, ◌&&◌, ◌||◌, not, nat_lt, if◌then◌else◌, Bool, true, false, All, get_or, refl, sym, ◌∙◌, ap, subst, inl, arith, Option, Some, None, is_some, Result, Ok, Err, OnOk, OnErr, IfOk, rules}
use Rattle.std.proofs.lemmas.Bool.{and_parts, eqb-true, ltb-true, ltb-false, both_ways}
use Rattle.std.proofs.lemmas.List.{get_or_default}
use Rattle.std.proofs.lemmas.List.Sums.{sum_by-set, sum_by-le}
use Rattle.thy_table.specs.declared.place.Place.{Place}
use Rattle.thy_block.specs.declared.nvm.NvmError.{NvmError}
use Rattle.thy_block.specs.Device.{Device, IsFramed}
use Rattle.thy_block.specs.Geometry.{memory_blocks}
use Rattle.thy_block.specs.Store.{page_of}
use Rattle.thy_table.specs.Devices.{Devices, devices_of}
use Rattle.thy_table.proofs.MoveLemmas.{AreSized-written_at}
use Rattle.thy_table.specs.Listing.{Listing, IsListing, entry_at, passes, index_of, with_entry}
use Rattle.thy_table.proofs.FirstLemmas.{first_from-first, none-first_from}
use Rattle.thy_table.specs.declared.block_entry.Version.{Version}
use Rattle.thy_table.specs.declared.block_entry.Version.TheVariants.{Out}
use Rattle.thy_table.specs.declared.block_entry.Working.{Working}
use Rattle.thy_table.specs.declared.page_entry.Site.{Site}
use Rattle.thy_table.specs.declared.page_entry.PttEntry.{PttEntry}
use Rattle.thy_table.specs.PageEntry.{no_page, is_framed, page_blocks}
use Rattle.thy_table.specs.declared.cell.Cell.{Cell}
use Rattle.thy_table.specs.Cells.{Seat, seat_of, placed, frame_at, worked_at, penult, target, last, work}
use Rattle.thy_table.specs.Sound.{IsSoundPage, IsSoundCell, Holds}
use Rattle.thy_table.specs.Checkpoint.{page_issued, with_issued}
use Rattle.thy_table.specs.BetweenCheckpoints.{PageWriteKeeps, PageWriteKeepsOthers, Keeps}
use Rattle.thy_control.specs.Guarded.{LeavesGuarded}
use Rattle.thy_control.specs.Keys.{page_key}
use Rattle.thy_control.specs.Moves.{moved, IsOneLess}
use Rattle.thy_control.specs.OverCalls.{stays_same}
use Rattle.thy_control.specs.State.{State, AreSoundTables, IsSized, cell_of, reads, penult_of, work_of}
use Rattle.thy_control.specs.Stays.{HoldAll, StaysHeld, Stays}
use Rattle.thy_control.specs.Versions.{KeepsCommitted, KeepsWork}
use Rattle.thy_control.specs.Pages.{needs_write, next_page, issues_left, writes_left, page_in, block_after, block_to_write, devices_issued, issued, devices_after_write, after_next_write, FailsWriteOf, FailsNextWrite}
use Rattle.thy_control.proofs.FindLemmas.{stands_at, entry_for-there}
use Rattle.thy_control.proofs.StateLemmas.{IsPlace-target, IsWithin-cell_of}
use Rattle.thy_control.proofs.TablesLemmas.{Owns-cell_of, owned-target}
use Rattle.thy_control.proofs.PageLemmas.{cell-page, same_page}
use Rattle.thy_control.proofs.StayLemmas.{StaysTables, LeavesGuarded-step, Stays-step, Stays-failed_step, Outcome-failed}
use Rattle.thy_control.proofs.KeepLemmas.{StepOutcome}
use Rattle.thy_control.proofs.StepLemmas.{listed-page, next-here, next-few, not-next, IsWalk, StaysTables-walked, AreSoundTables-walked, here_now, left_as, Keeps-walked, reads-walked, IsBlockOf-entry}

-- a busy page moves in a checkpoint under way, is framed, and was not just promoted
pub busy-framed : (u : Bool) (page : PttEntry) → IsSoundPage u page → page.busy ≡ true → is_framed page ≡ true
busy-framed u page s busy = grind arith

pub busy-old : (u : Bool) (page : PttEntry) → IsSoundPage u page → page.busy ≡ true → page.fresh ≡ false
busy-old u page s busy = grind arith

busy-under_way : (u : Bool) (page : PttEntry) → IsSoundPage u page → page.busy ≡ true → u ≡ true
busy-under_way u page s busy = grind arith

-- a framed page's block has its work at the same place, whatever its last version is
worked-framed : (w : Working) (f : Bool) (x y : Place) (v : Version) (seat : Seat) → f ≡ true
    → worked_at w f x v seat ≡ worked_at w f y v seat
worked-framed w f x y v seat e = grind arith

module _ (b : ℕ) (s : State) (busy : (cell_of s b).page.busy ≡ true) where
  has_page : (cell_of s b).page ≢ no_page (page_of b)
  has_page e = let no : (cell_of s b).page.busy ≡ false = ap (λ (x : PttEntry). x.busy) e in both_ways _ no busy

  pub listed-busy : index_of page_key (page_of b) s.ptt ≡ Some (cell_of s b).j
  listed-busy = listed-page b s has_page

  busy-same : (k : ℕ) → page_of k ≡ page_of b → (cell_of s k).page.busy ≡ true
  busy-same k q = ap (λ (x : PttEntry). x.busy) (same_page s k b q) ∙ busy

  -- every block but the page's blocks is as it was
  pub cell-issued : (m : Device) (P : Cell → Cell → Type 0) (k : ℕ) → (page_of k ≡ page_of b → P (cell_of s k) (with_issued (cell_of s k)))
      → (page_of k ≢ page_of b → P (cell_of s k) (cell_of s k)) → P (cell_of s k) (cell_of (issued b s m) k)
  unfolding issued
  cell-issued m P k here others = cell-page page_issued (λ e. refl) s b listed-busy P k here others

  module _ (t : AreSoundTables s) (l : b < memory_blocks s.p) (due : (cell_of s b).page.issued ≡ b % 64) (law : PageWriteKeeps)
      (other : PageWriteKeepsOthers) where
    moving : s.under_way ≡ true
    moving = busy-under_way s.under_way (cell_of s b).page (t.cells b l).of_page busy

    sound : (k : ℕ) → k < memory_blocks s.p → IsSoundCell true (cell_of s k)
    sound k h = subst (λ (u : Bool). IsSoundCell u (cell_of s k)) moving (t.cells k h)

    -- the write is a step of a page
    walk : IsWalk page_issued true b s (frame_at (seat_of (cell_of s b))) (target (cell_of s b))
    walk = record {
      of_page = λ e. refl;
      way = moving;
      has_page = has_page;
      there = IsPlace-target s.p (cell_of s b) (IsWithin-cell_of s b t l);
      owns = owned-target s b (cell_of s b) (Owns-cell_of s b);
      here = λ old new put. law s.p (cell_of s b) old new (IsWithin-cell_of s b t l) (sound b l) busy
          (next-here b s (λ e. e.issued) due) (next-few b s (λ e. e.issued) due b refl) put;
      others = λ k h q ne old new same hold. other (cell_of s k) old new (sound k h) (busy-same k q)
          (not-next b s (λ e. e.issued) due k q ne) (next-few b s (λ e. e.issued) due k q) (omega arith) same hold;
    }

module _ (b : ℕ) (s : State) (busy : (cell_of s b).page.busy ≡ true) (m : Device) (t : AreSoundTables s) (sized : IsSized s m)
    (l : b < memory_blocks s.p)
    (due : (cell_of s b).page.issued ≡ b % 64) (law : PageWriteKeeps) (other : PageWriteKeepsOthers) where
  pub AreSoundTables-issued : IsListing page_key (issued b s m).ptt → AreSoundTables (issued b s m)
  unfolding issued devices_issued
  AreSoundTables-issued once =
      let sizes = AreSized-written_at s.p (devices_of m s.dram) (target (cell_of s b)) (reads s m (frame_at (seat_of (cell_of s b))))
      (record { nvm = sized.nvm; dram = t.dram_size }) in
      AreSoundTables-walked (walk b s busy t l due law other) t (devices_issued b s m).dram sizes.dram
      (λ bare. absurd (both_ways _ bare (busy-framed s.under_way (cell_of s b).page (t.cells b l).of_page busy))) once

module _ (law : PageWriteKeeps) (other : PageWriteKeepsOthers) (b : ℕ) (s : State) (busy : (cell_of s b).page.busy ≡ true) (m : Device)
    (t : AreSoundTables s) (sized : IsSized s m) (l : b < memory_blocks s.p) (due : (cell_of s b).page.issued ≡ b % 64) where
  this : IsWalk page_issued true b s (frame_at (seat_of (cell_of s b))) (target (cell_of s b))
  this = walk b s busy t l due law other

  -- if the places hold what they have to, every block is kept
  Keeps-issued : (k : ℕ) → k < memory_blocks s.p → Holds (reads s m) (cell_of s k)
      → Keeps true (reads s m) (reads (issued b s m) (devices_issued b s m).nvm) (cell_of s k) (cell_of (issued b s m) k)
  unfolding issued devices_issued
  Keeps-issued k h hold = Keeps-walked this t m sized (devices_issued b s m).dram k h hold

  -- in any case the committed version reads as before
  pub penult-issued : (k : ℕ) → k < memory_blocks s.p → penult_of (issued b s m) (devices_issued b s m).nvm k ≡ penult_of s m k
  unfolding issued devices_issued
  penult-issued k h = reads-walked this t m sized penult (here_now this t m sized).reads.penult_same (λ j i q. refl)
      (λ j i ne. (left_as this t m sized j i ne).penult_same) (devices_issued b s m).dram k h

  -- in any case a load gives what it gave before
  pub work-issued : (k : ℕ) → k < memory_blocks s.p → work_of (issued b s m) (devices_issued b s m).nvm k ≡ work_of s m k
  unfolding issued devices_issued
  work-issued k h = reads-walked this t m sized work (here_now this t m sized).reads.work_gives
      (λ j i q.
      let c : Cell = cell_of s j in
      worked-framed c.entry.work (is_framed c.page) (last (with_issued c)) (last c) c.entry.v0 (seat_of c)
      (busy-framed s.under_way c.page (t.cells j i).of_page (busy-same b s busy j q)))
      (λ j i ne. (left_as this t m sized j i ne).work_same) (devices_issued b s m).dram k h

  pub held-issued : HoldAll s m → StaysHeld s m (issued b s m) (devices_issued b s m).nvm
  unfolding issued
  held-issued hold = record {
    holds = λ k h. (Keeps-issued k h (hold k h)).holds (hold k h);
    last_same = λ k h. (Keeps-issued k h (hold k h)).reads.last_same;
  }

-- one block less is left
left_one : (leaving : Bool) (i : ℕ) → i < 64
    → (if leaving || not (i + 1 == page_blocks) then page_blocks - (i + 1) else 0) + 1 ≡ page_blocks - i
left_one true i l = omega arith
left_one false i l = by_test (i + 1 == page_blocks) refl where
  by_test : (x : Bool) → (i + 1 == page_blocks) ≡ x → (if not x then page_blocks - (i + 1) else 0) + 1 ≡ page_blocks - i
  by_test true e = let full : i + 1 ≡ page_blocks = eqb-true (i + 1) page_blocks e in omega (arith, full)
  by_test false e = omega arith

module _ (b : ℕ) (s : State) (m : Device) (busy : (cell_of s b).page.busy ≡ true) (less : (cell_of s b).page.issued < 64) where
  pub writes_left-issued : writes_left (issued b s m) + 1 ≡ writes_left s
  unfolding issued
  writes_left-issued =
      let c : Cell = cell_of s b in
      let there = stands_at page_key no_page s.ptt (page_of b) c.j (listed-busy b s busy) in
      let was : issues_left (entry_at s.ptt c.j) ≡ page_blocks - c.page.issued
      = ap issues_left there.0
      ∙ ap (λ (x : Bool). if x then page_blocks - c.page.issued else 0) busy in
      omega (
        arith,
        sum_by-set issues_left s.ptt.entries c.j (Some (page_issued c.page)) None
            there.1,
        was,
        left_one c.page.leaving c.page.issued less,
      )

-- what is known of the next block
pub record IsDue (s : State) (b : ℕ) : Type 0 where
  pub inside : b < memory_blocks s.p
  pub busy : (cell_of s b).page.busy ≡ true
  pub due : (cell_of s b).page.issued ≡ b % 64

pub IsDue-entry : (s : State) → AreSoundTables s → (j : ℕ) → next_page s ≡ Some j → IsDue s (block_to_write j s)
IsDue-entry s t j h = by_entry (entry_at s.ptt j) refl (first_from-first (passes needs_write) None s.ptt.entries 0 j h).here where
  by_entry : (o : Option PttEntry) → entry_at s.ptt j ≡ o → passes needs_write o ≡ true → IsDue s (block_to_write j s)
  by_entry None e p = cc
  by_entry (Some x) e p =
      let both = and_parts x.busy (nat_lt x.issued page_blocks) p in
      let few : x.issued < page_blocks = ltb-true x.issued page_blocks both.1 in
      let of = IsBlockOf-entry s t j x e x.issued few in
      subst (λ (k : ℕ). IsDue s k) (sym (ap (block_after (λ e. e.issued)) e)) (record {
        inside = of.inside;
        busy = ap (λ (y : PttEntry). y.busy) of.page ∙ both.0;
        due = ap (λ (y : PttEntry). y.issued) of.page ∙ of.in_page;
      })

pub page_in-small : (s : State) → AreSoundTables s → (j : ℕ) → page_in (entry_at s.ptt j) < memory_blocks s.p + 1
page_in-small s t j = by_entry (entry_at s.ptt j) refl where
  by_entry : (o : Option PttEntry) → entry_at s.ptt j ≡ o → page_in o < memory_blocks s.p + 1
  by_entry None e = omega arith
  by_entry (Some x) e =
      omega (arith, (entry_for-there page_key no_page s.ptt t.ptt_once j x e).2, t.ptt_numbers)

-- the place that is written is none of the committed checkpoint
pub sites_apart : (v w : Version) (p q : Site) (x : Seat) → w ≡ Out → p ≢ q → placed v p x ≢ placed w q x
sites_apart v w p q x out other e = grind arith

module _ (b : ℕ) (s : State) (busy : (cell_of s b).page.busy ≡ true) (m : Device) where
  module _ (t : AreSoundTables s) (sized : IsSized s m) (l : b < memory_blocks s.p) (due : (cell_of s b).page.issued ≡ b % 64) where
    stays_tables : PageWriteKeeps → PageWriteKeepsOthers → StaysTables s (issued b s m)
    unfolding issued
    stays_tables law other = StaysTables-walked (walk b s busy t l due law other) refl refl
        (λ k q. record { penult_same = refl; target_same = refl; settled = λ h. h; busy_before = λ h. busy-same b s busy k q; issued = omega arith })
        (devices_issued b s m).dram

    guarded_by : (n : Device)
        → StepOutcome s (target (cell_of s b)) (reads s m (frame_at (seat_of (cell_of s b)))) m n
        → LeavesGuarded s m n
    guarded_by n outcome =
        let c : Cell = cell_of s b in
        let sound = t.cells b l in
        let framed : is_framed c.page ≡ true = busy-framed s.under_way c.page sound.of_page busy in
        let out : c.entry.v1 ≡ Out = sound.framed_out framed (busy-old s.under_way c.page sound.of_page busy) in
        LeavesGuarded-step s (target c) (reads s m (frame_at (seat_of c))) m n b t (IsPlace-target s.p c (IsWithin-cell_of s b t l))
        (owned-target s b c (Owns-cell_of s b))
        (sites_apart c.entry.v0 c.entry.v1 c.page.place c.page.target (seat_of c) out (sound.of_page.busy_moves busy))
        (λ placed same. absurd (omega (arith, due, placed.issued busy))) outcome

    pub Stays-issued : PageWriteKeeps → PageWriteKeepsOthers → m.down ≡ false → IsFramed m (devices_issued b s m).nvm
        → Stays s m (issued b s m) (devices_issued b s m).nvm
    unfolding devices_issued
    Stays-issued law other up framed =
        let c : Cell = cell_of s b in
        Stays-step s (target c) (reads s m (frame_at (seat_of c))) m (issued b s m) (IsPlace-target s.p c (IsWithin-cell_of s b t l)) sized
        (stays_tables law other) (λ d. let no : true ≡ false = sym d ∙ up in cc) framed
        (guarded_by (devices_issued b s m).nvm (inl refl))
        (penult-issued law other b s busy m t sized l due) (held-issued law other b s busy m t sized l due)

    pub Stays-not_issued : (n : Device) → FailsWriteOf b s m n → IsFramed m n → Stays s m s n
    Stays-not_issued n failed framed =
        let f = Outcome-failed s (frame_at (seat_of (cell_of s b))) (target (cell_of s b)) m n failed in
        Stays-failed_step s m n framed f.1 (guarded_by n f.0)

-- what is kept by the next write, or by none
pub record KeepsNext (s : State) (m : Device) (t : State) (n : Device) : Type 0 where
  pub committed : KeepsCommitted s m t n
  pub held : HoldAll s m → StaysHeld s m t n
  pub work : KeepsWork s m t n

KeepsNext-by : PageWriteKeeps → PageWriteKeepsOthers → (s : State) (m : Device) → AreSoundTables s → IsSized s m → (o : Option ℕ)
    → next_page s ≡ o
    → KeepsNext s m (after_next_write o s m) (devices_after_write o s m)
KeepsNext-by law other s m t sized None h = record {
  committed = record { penult_same = λ b l. refl };
  held = λ hold. record { holds = hold; last_same = λ b l. refl };
  work = record { work_same = λ b l. refl };
}
KeepsNext-by law other s m t sized (Some j) h =
    let b : ℕ = block_to_write j s in
    let d = IsDue-entry s t j h in
    record {
      committed = record { penult_same = penult-issued law other b s d.busy m t sized d.inside d.due };
      held = held-issued law other b s d.busy m t sized d.inside d.due;
      work = record { work_same = work-issued law other b s d.busy m t sized d.inside d.due };
    }

pub KeepsNext-write : PageWriteKeeps → PageWriteKeepsOthers → (s : State) (m : Device) → AreSoundTables s → IsSized s m
    → KeepsNext s m (after_next_write (next_page s) s m) (devices_after_write (next_page s) s m)
KeepsNext-write law other s m t sized = KeepsNext-by law other s m t sized (next_page s) refl

-- if no page is next, no block is left
none_left : (s : State) → next_page s ≡ None → writes_left s ≡ 0
none_left s h =
    let each : All (λ o. issues_left o ≤ 0) s.ptt.entries = λ k d l.
    let is : get_or s.ptt.entries k d ≡ get_or s.ptt.entries k None = get_or_default s.ptt.entries k d None l in
    let none : passes needs_write (get_or s.ptt.entries k None) ≡ false =
    none-first_from (passes needs_write) None s.ptt.entries 0 h k (omega arith) l in
    omega (arith, ap issues_left is, by_entry (get_or s.ptt.entries k None) none) in
    omega (arith, sum_by-le issues_left 0 s.ptt.entries each)
  where
    by_busy : (busy : Bool) (i : ℕ) → (busy && nat_lt i page_blocks) ≡ false → (if busy then page_blocks - i else 0) ≤ 0
    by_busy false i h = omega arith
    by_busy true i h = let full : page_blocks ≤ i = ltb-false i page_blocks h in omega (arith, full)

    by_entry : (o : Option PttEntry) → passes needs_write o ≡ false → issues_left o ≤ 0
    by_entry None h = omega arith
    by_entry (Some e) h = by_busy e.busy e.issued h

-- one block less is left to write
pub writes_left-next : (s : State) (m : Device) → AreSoundTables s → (o : Option ℕ) → next_page s ≡ o
    → IsOneLess (is_some o) (writes_left s) (writes_left (after_next_write o s m))
writes_left-next s m t None h = (none_left s h, none_left s h)
writes_left-next s m t (Some j) h =
    let d = IsDue-entry s t j h in
    writes_left-issued (block_to_write j s) s m d.busy (omega (arith, d.due))

pub left_after : (s : State) (m : Device) (t : State) → AreSoundTables s → (r : Result Bool NvmError)
    → OnOk r (t ≡ after_next_write (next_page s) s m) → IfOk r (λ more. more ≡ is_some (next_page s))
    → IfOk r (λ more. IsOneLess more (writes_left s) (writes_left t))
left_after s m t tables r e f = search (rules, writes_left-next s m tables (next_page s) refl)

Stays-next : PageWriteKeeps → PageWriteKeepsOthers → (s : State) (m : Device) → AreSoundTables s → IsSized s m → m.down ≡ false
    → (o : Option ℕ) → next_page s ≡ o
    → IsFramed m (devices_after_write o s m) → Stays s m (after_next_write o s m) (devices_after_write o s m)
Stays-next law other s m t sized up None h framed = stays_same s m
Stays-next law other s m t sized up (Some j) h framed =
    let d = IsDue-entry s t j h in
    Stays-issued (block_to_write j s) s d.busy m t sized d.inside d.due law other up framed

pub stays_by : PageWriteKeeps → PageWriteKeepsOthers → (s : State) (m : Device) (t : State) (n : Device) (r : Result Bool NvmError)
    → AreSoundTables s → IsSized s m → m.down ≡ false
    → OnOk r (t ≡ after_next_write (next_page s) s m) → OnOk r (n ≡ devices_after_write (next_page s) s m)
    → OnErr r (t ≡ s) → OnErr r (FailsNextWrite s m n) → IsFramed m n → Stays s m t n
stays_by law other s m t n (Ok more) tables sized up e f k g framed =
    subst (λ (y : State). Stays s m y n) (sym e) (subst (λ (y : Device). Stays s m (after_next_write (next_page s) s m) y) (sym f)
    (Stays-next law other s m tables sized up (next_page s) refl (subst (λ (y : Device). IsFramed m y) f framed)))
stays_by law other s m t n (Err x) tables sized up e f k g framed =
    let d = IsDue-entry s tables g.entry g.next in
    subst (λ (y : State). Stays s m y n) (sym k)
    (Stays-not_issued (block_to_write g.entry s) s d.busy m tables sized d.inside d.due n g.fails framed)

-- the parts of the code's way: the state as its fields have it
module _ {s w : State} (view : w ≡ s) (b : ℕ) (m : Device) {found : Cell}
    (is : found ≡ cell_of s b) where
  pub devices_are : {from to : Place} {d : Devices} → from ≡ frame_at (seat_of found)
      → to ≡ target found
      → d ≡ moved w.p from to (devices_of m w.dram) → d ≡ devices_issued b s m
  unfolding devices_issued
  devices_are from_is to_is d_is = cc

  pub state_is : {after : Cell} {t : Listing PttEntry} {d : Devices} → after ≡ with_issued found
      → t ≡ with_entry found.j (Some after.page) w.ptt → d ≡ devices_issued b s m
      → record w { ptt = t; dram = d.dram } ≡ issued b s m
  unfolding issued
  state_is after_is t_is d_is = cc
