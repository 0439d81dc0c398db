-- A step between two checkpoints writes one place, which belongs to one block: what it leaves of every other.
use Rattle.std.proofs.Common.{◌≡◌, ◌≢◌, ℕ, ◌<◌, ◌≤◌, Bool, false, List, All, length, get_or, refl, ◌∙◌, ap, arith, Some, Result, OnOk, rules, ◌+◌, ◌*◌, ◌%◌, true, sym, subst, Option}
use Rattle.std.specs.List.{count_by}
use Rattle.std.proofs.lemmas.List.{get_or_default, length-set}
use Rattle.std.proofs.lemmas.List.Sums.{sum_by-le}
use Rattle.thy_block.specs.declared.block.Block.{Block}
use Rattle.thy_table.specs.declared.place.Place.{Place}
use Rattle.thy_block.specs.Device.{Device, zero_block}
use Rattle.thy_block.specs.Geometry.{memory_blocks}
use Rattle.thy_table.specs.Places.{IsPlace}
use Rattle.thy_block.specs.Store.{page_of}
use Rattle.thy_table.specs.Devices.{AreSized, devices_of, read_at, written_at}
use Rattle.thy_table.proofs.MoveLemmas.{read_at-written_same, read_at-written_other}
use Rattle.thy_table.proofs.IndexLemmas.{one_if}
use Rattle.thy_table.specs.declared.page_entry.PttEntry.{PttEntry}
use Rattle.thy_table.specs.PageEntry.{no_page, is_framed, page_blocks}
use Rattle.thy_table.specs.declared.cell.Cell.{Cell}
use Rattle.thy_table.specs.Cells.{seat_of, frame_at, penult, target, last, work}
use Rattle.thy_table.specs.Sound.{IsSoundCell, Puts, Holds}
use Rattle.thy_table.specs.BetweenCheckpoints.{Keeps, ReadsSame}
use Rattle.thy_control.specs.State.{State, AreSoundTables, IsSized, cell_of, reads}
use Rattle.thy_control.specs.Stays.{HoldAll, CellStays}
use Rattle.thy_control.specs.Versions.{KeepsCheckpoints, KeepsWork, KeepsAll}
use Rattle.thy_control.proofs.StateLemmas.{IsPlace-penult, IsPlace-target, IsPlace-last, IsPlace-work, IsWithin-cell_of, block-cell_of, index_of-index}
use Rattle.thy_control.proofs.KeepLemmas.{hold_same, IsPlace-frame_of}
use Rattle.thy_control.proofs.TablesLemmas.{owner, Owns, Owns-cell_of, owned-penult, owned-target, owned-last, owned-work, owned-apart}
use Rattle.thy_block.specs.Places.{dram_blocks}
use Rattle.thy_dram.specs.Contents.{Contents}
use Rattle.thy_table.specs.Listing.{IsListing, entry_at, index_of, with_entry}
use Rattle.thy_control.specs.CheckpointTables.{tables0, tables1, page_lists}
use Rattle.thy_control.specs.Find.{entry_for}
use Rattle.thy_control.specs.Keys.{page_key}
use Rattle.thy_control.specs.OverCalls.{cell_same}
use Rattle.thy_control.proofs.FindLemmas.{entry_for-there, stands_at, by_number}
use Rattle.thy_control.proofs.PageLemmas.{cell-page, same_page, live-set}
use Rattle.thy_control.proofs.StayLemmas.{map-page, StaysTables}

-- the places of a block read as before: its frame if its page has an entry
pub record Untouched (old new : Place → Block) (b : ℕ) (c : Cell) : Type 0 where
  pub penult_same : new (penult c) ≡ old (penult c)
  pub target_same : new (target c) ≡ old (target c)
  pub last_same : new (last c) ≡ old (last c)
  pub work_same : new (work c) ≡ old (work c)
  pub frame_same : c.page ≢ no_page (page_of b) → new (frame_at (seat_of c)) ≡ old (frame_at (seat_of c))

module _ (s : State) (m : Device) (b : ℕ) (y : Place) (v : Block) (t : AreSoundTables s) (sized : IsSized s m) (there : IsPlace s.p y)
    (owns : owner s y ≡ Some b) where
  abbrev pub reads_after : Place → Block
  reads_after x = read_at s.p (written_at s.p y v (devices_of m s.dram)) x

  sizes : AreSized s.p (devices_of m s.dram)
  sizes = record { nvm = sized.nvm; dram = t.dram_size }

  pub puts : Puts s.p y v (reads s m) reads_after
  puts = record {
    here = read_at-written_same s.p (devices_of m s.dram) y v there sizes;
    others = λ x is ne. read_at-written_other s.p (devices_of m s.dram) y x v there is sizes ne;
  }

  elsewhere : (k : ℕ) (x : Place) → k ≢ b → IsPlace s.p x → owner s x ≡ Some k → reads_after x ≡ reads s m x
  elsewhere k x ne is own = puts.others x is (owned-apart s k b x y ne own owns)

  -- the places of every other block read as before
  pub untouched : (k : ℕ) → k < memory_blocks s.p → k ≢ b → Untouched (reads s m) reads_after k (cell_of s k)
  untouched k l ne =
      let c : Cell = cell_of s k in
      let o : Owns s k c = Owns-cell_of s k in
      let w = IsWithin-cell_of s k t l in
      record {
        penult_same = elsewhere k (penult c) ne (IsPlace-penult s.p c w) (owned-penult s k c o);
        target_same = elsewhere k (target c) ne (IsPlace-target s.p c w) (owned-target s k c o);
        last_same = elsewhere k (last c) ne (IsPlace-last s.p c w) (owned-last s k c o);
        work_same = elsewhere k (work c) ne (IsPlace-work s.p c w) (owned-work s k c o);
        frame_same = λ listed. elsewhere k (frame_at (seat_of c)) ne (IsPlace-frame_of s k t l) (o.of_page listed);
      }

-- if its page has an entry, all of them
pub ReadsSame-of : (old new : Place → Block) (b : ℕ) (c : Cell) → Untouched old new b c → c.page ≢ no_page (page_of b) → ReadsSame old new c
ReadsSame-of old new b c u listed = search (rules, u.frame_same listed)

-- a block whose entries are left is kept
pub Keeps-untouched : (under_way : Bool) (old new : Place → Block) (b : ℕ) (c : Cell) → IsSoundCell under_way c → Untouched old new b c
    → Keeps under_way old new c c
Keeps-untouched under_way old new b c sound u = record {
  sound = sound;
  reads = record { penult_same = u.penult_same; last_same = u.last_same; work_gives = u.work_same };
  holds = hold_same old new c u.target_same u.last_same u.work_same
      (λ f. u.frame_same (λ e. let no : is_framed c.page ≡ false = ap is_framed e in cc))
      (λ f. u.frame_same (λ e. let no : c.page.fresh ≡ false = ap (λ (x : PttEntry). x.fresh) e in cc))
      (λ f. u.frame_same (λ e. let no : c.page.busy ≡ false = ap (λ (x : PttEntry). x.busy) e in cc));
}

-- every block is kept
abbrev pub KeepsEach : State → Device → State → Device → Type 0
KeepsEach s m t n = (b : ℕ) → b < memory_blocks s.p → Keeps s.under_way (reads s m) (reads t n) (cell_of s b) (cell_of t b)

pub checkpoints-each : (s : State) (m : Device) (t : State) (n : Device) → KeepsEach s m t n → KeepsCheckpoints s m t n
checkpoints-each s m t n each = record {
  penult_same = λ b l. (each b l).reads.penult_same;
  last_same = λ b l. (each b l).reads.last_same;
}

pub work-each : (s : State) (m : Device) (t : State) (n : Device) → KeepsEach s m t n → KeepsWork s m t n
work-each s m t n each = record { work_same = λ b l. (each b l).reads.work_gives }

pub holds-each : (s : State) (m : Device) (t : State) (n : Device) → t.p ≡ s.p → KeepsEach s m t n → HoldAll s m → HoldAll t n
holds-each s m t n same each hold b l =
    let inside : b < memory_blocks s.p = omega (arith, l, ap memory_blocks same) in
    (each b inside).holds (hold b inside)

pub KeepsAll-each : (s : State) (m : Device) (t : State) (n : Device) → t.p ≡ s.p → KeepsEach s m t n → KeepsAll s m t n
KeepsAll-each s m t n same each = record {
  checkpoints = checkpoints-each s m t n each;
  work = work-each s m t n each;
  holds = holds-each s m t n same each;
}

-- if none passes a test, none is counted
pub none-passes : {X : Type 0} (test : X → Bool) (xs : List X) (d : X) → ((k : ℕ) → k < length xs → test (get_or xs k d) ≡ false)
    → count_by test xs ≡ 0
none-passes test xs d none =
    let each : All (λ x. one_if (test x) ≤ 0) xs = λ k other l.
    let is : test (get_or xs k other) ≡ false = ap test (get_or_default xs k other d l) ∙ none k l in
    omega (arith, ap one_if is) in
    omega (arith, sum_by-le (λ x. one_if (test x)) 0 xs each)

-- if nothing happens, every block is kept
pub KeepsEach-same : (s : State) (m : Device) → AreSoundTables s → KeepsEach s m s m
KeepsEach-same s m t b l = record {
  sound = t.cells b l;
  reads = record { penult_same = refl; last_same = refl; work_gives = refl };
  holds = λ h. h;
}

-- what holds of the state and the device that a call left, if both are known
pub at_result : {T E : Type 0} (P : State → Device → Type 0) (r : Result T E) (t : State)
    (n : Device) {u : State} {k : Device} → OnOk r (t ≡ u) → OnOk r (n ≡ k) → P u k → OnOk r (P t n)
at_result P r t n {u} {k} e f h = search rules

-- ---- a step that moves the next block of a page, and counts it at the page's entry

-- a block with its page counted on
abbrev pub counted_on : (PttEntry → PttEntry) → Cell → Cell
counted_on f c = record c { page = f c.page }

-- the controller after the step, with this DRAM
abbrev pub walked : (PttEntry → PttEntry) → ℕ → State → Contents → State
walked f b s d = record s { ptt = with_entry (cell_of s b).j (Some (f (cell_of s b).page)) s.ptt; dram = d }

-- blocks of one page that are two have two numbers in it
two_in_page : (k b : ℕ) → page_of k ≡ page_of b → k ≢ b → k % 64 ≢ b % 64
two_in_page k b q ne e = ne (omega (arith, q, e))

-- a page that has an entry
module _ (b : ℕ) (s : State) (has_page : (cell_of s b).page ≢ no_page (page_of b)) where
  pub listed-page : index_of page_key (page_of b) s.ptt ≡ Some (cell_of s b).j
  listed-page = index_of-index page_key no_page s.ptt (page_of b) has_page

  pub has_page-same : (k : ℕ) → page_of k ≡ page_of b → (cell_of s k).page ≢ no_page (page_of k)
  has_page-same k q e = has_page (sym (same_page s k b q) ∙ e ∙ ap no_page q)

-- a page counts, by this part of its entry, up to block b: not up to another of its blocks
module _ (b : ℕ) (s : State) (part : PttEntry → ℕ) (due : part (cell_of s b).page ≡ b % 64) where
  pub next-here : part (cell_of s b).page ≡ (cell_of s b).entry.block % 64
  next-here = due ∙ ap (λ (n : ℕ). n % 64) (sym (block-cell_of s b))

  pub next-few : (k : ℕ) → page_of k ≡ page_of b → part (cell_of s k).page < 64
  next-few k q = omega (arith, due, ap part (same_page s k b q))

  pub not-next : (k : ℕ) → page_of k ≡ page_of b → k ≢ b → part (cell_of s k).page ≢ (cell_of s k).entry.block % 64
  not-next k q ne e =
      let numbers : k % 64 ≢ b % 64 = two_in_page k b q ne in
      numbers (ap (λ (n : ℕ). n % 64) (sym (block-cell_of s k)) ∙ sym e ∙ ap part (same_page s k b q) ∙ due)

-- the step moves block b, whose place y is written with what stands at x, and counts it by f; with
-- what is known of the other blocks of its page
pub record IsWalk (f : PttEntry → PttEntry) (u : Bool) (b : ℕ) (s : State) (x y : Place) : Type 0 where
  pub of_page : (e : PttEntry) → (f e).page ≡ e.page
  pub way : s.under_way ≡ u
  pub has_page : (cell_of s b).page ≢ no_page (page_of b)
  pub there : IsPlace s.p y
  pub owns : owner s y ≡ Some b
  pub here : (old new : Place → Block) → Puts s.p y (old x) old new → Keeps u old new (cell_of s b) (counted_on f (cell_of s b))
  pub others : (k : ℕ) → k < memory_blocks s.p → page_of k ≡ page_of b → k ≢ b → (old new : Place → Block)
      → ReadsSame old new (cell_of s k) → Holds old (cell_of s k) → Keeps u old new (cell_of s k) (counted_on f (cell_of s k))

module _ {f : PttEntry → PttEntry} {u : Bool} {b : ℕ} {s : State} {x y : Place} (w : IsWalk f u b s x y) where
  listed : index_of page_key (page_of b) s.ptt ≡ Some (cell_of s b).j
  listed = listed-page b s w.has_page

  -- every block but the page's blocks is as it was
  cell-walked : (d : Contents) (P : Cell → Cell → Type 0) (k : ℕ) → (page_of k ≡ page_of b → P (cell_of s k) (counted_on f (cell_of s k)))
      → (page_of k ≢ page_of b → P (cell_of s k) (cell_of s k)) → P (cell_of s k) (cell_of (walked f b s d) k)
  cell-walked d P k here others = cell-page f w.of_page s b listed P k here others

  -- the tables of both checkpoints stay if the step moves no place of them
  pub StaysTables-walked : page_lists (f (cell_of s b).page).place (f (cell_of s b).page).page ≡ page_lists (cell_of s b).page.place
      (cell_of s b).page.page
      → page_lists (f (cell_of s b).page).target (f (cell_of s b).page).page ≡ page_lists (cell_of s b).page.target (cell_of s b).page.page
      → ((k : ℕ) → page_of k ≡ page_of b → CellStays (cell_of s k) (counted_on f (cell_of s k))) → (d : Contents)
      → StaysTables s (walked f b s d)
  StaysTables-walked place target stays d = record {
    same_p = refl;
    same_way = refl;
    tables0_same = ap (λ (x : List (Option ℕ)). record (tables0 s) { ptt = x })
        (map-page (λ e. page_lists e.place e.page) s b (f (cell_of s b).page) listed place);
    tables1_same = ap (λ (x : List (Option ℕ)). record (tables1 s) { ptt = x })
        (map-page (λ e. page_lists e.target e.page) s b (f (cell_of s b).page) listed target);
    lasts_same = refl;
    cells = λ k l. cell-walked d CellStays k (λ q. stays k q) (λ o. cell_same (cell_of s k));
  }

  module _ (t : AreSoundTables s) where
    sound : (k : ℕ) → k < memory_blocks s.p → IsSoundCell u (cell_of s k)
    sound k h = subst (λ (v : Bool). IsSoundCell v (cell_of s k)) w.way (t.cells k h)

    -- the entries stay sound, whatever is read
    sound-walked : (d : Contents) (k : ℕ) → k < memory_blocks s.p → IsSoundCell s.under_way (cell_of (walked f b s d) k)
    sound-walked d k h =
        let all : Place → Block = λ z. zero_block in
        subst (λ (v : Bool). IsSoundCell v (cell_of (walked f b s d) k)) (sym w.way)
        (cell-walked d (λ c e. IsSoundCell u e) k
        (λ q. by_number (λ j. IsSoundCell u (counted_on f (cell_of s j))) b k
        (w.here all all (record { here = refl; others = λ z is ne. refl })).sound
        (λ ne. (w.others k h q ne all all
        (record {
          penult_same = refl;
          target_same = refl;
          last_same = refl;
          work_same = refl;
          frame_same = refl;
        })
        (record { clean = λ g d e. refl; copied = λ j g. refl; issued = λ g j. refl })).sound))
        (λ o. sound k h))

    pub AreSoundTables-walked : (d : Contents) → length d.blocks ≡ dram_blocks s.p
        → (is_framed (f (cell_of s b).page) ≡ false → (f (cell_of s b).page).fresh ≡ true)
        → IsListing page_key (walked f b s d).ptt → AreSoundTables (walked f b s d)
    AreSoundTables-walked d size live once =
        search (
          rules,
          length-set s.ptt.entries (cell_of s b).j (Some (f (cell_of s b).page)) ∙ t.ptt_size,
          once,
          live-set s.ptt (cell_of s b).j (f (cell_of s b).page)
              (stands_at page_key no_page s.ptt (page_of b) (cell_of s b).j listed).1 live
              t.live_pages,
          size,
          sound-walked d,
        )

    module _ (m : Device) (sized : IsSized s m) where
      -- what is read after it
      abbrev pub reads_now : Place → Block
      reads_now = reads_after s m b y (reads s m x) t sized w.there w.owns

      pub here_now : Keeps u (reads s m) reads_now (cell_of s b) (counted_on f (cell_of s b))
      here_now = w.here (reads s m) reads_now (puts s m b y (reads s m x) t sized w.there w.owns)

      pub left_as : (k : ℕ) → k < memory_blocks s.p → k ≢ b → Untouched (reads s m) reads_now k (cell_of s k)
      left_as k h ne = untouched s m b y (reads s m x) t sized w.there w.owns k h ne

      -- if the places hold what they have to, every block is kept
      pub Keeps-walked : (d : Contents) (k : ℕ) → k < memory_blocks s.p → Holds (reads s m) (cell_of s k)
          → Keeps u (reads s m) reads_now (cell_of s k) (cell_of (walked f b s d) k)
      Keeps-walked d k h hold = cell-walked d (λ c e. Keeps u (reads s m) reads_now c e) k
          (λ q. by_number (λ j. Keeps u (reads s m) reads_now (cell_of s j)
          (counted_on f (cell_of s j)))
          b k here_now (λ ne. w.others k h q ne (reads s m) reads_now
          (ReadsSame-of (reads s m) reads_now k (cell_of s k) (left_as k h ne)
          (has_page-same b s w.has_page k q)) hold))
          (λ o. Keeps-untouched u (reads s m) reads_now k (cell_of s k) (sound k h) (left_as k h (λ e. o (ap page_of e))))

      -- in any case a version of a block reads as before if the moved block's version does, and no other block's
      -- version is moved
      pub reads-walked : (version : Cell → Place) → reads_now (version (counted_on f (cell_of s b))) ≡ reads s m (version (cell_of s b))
          → ((k : ℕ) → k < memory_blocks s.p → page_of k ≡ page_of b → version (counted_on f (cell_of s k)) ≡ version (cell_of s k))
          → ((k : ℕ) → k < memory_blocks s.p → k ≢ b → reads_now (version (cell_of s k)) ≡ reads s m (version (cell_of s k)))
          → (d : Contents) (k : ℕ) → k < memory_blocks s.p
          → reads_now (version (cell_of (walked f b s d) k)) ≡ reads s m (version (cell_of s k))
      reads-walked version here same others d k h = cell-walked d (λ c e. reads_now (version e) ≡ reads s m (version c)) k
          (λ q. by_number
          (λ j. reads_now (version (counted_on f (cell_of s j))) ≡ reads s m
          (version (cell_of s j)))
          b k here (λ ne. ap reads_now (same k h q) ∙ others k h ne))
          (λ o. others k h (λ e. o (ap page_of e)))

-- the block of an entry's page that comes after n others
pub record IsBlockOf (s : State) (x : PttEntry) (n b : ℕ) : Type 0 where
  pub inside : b < memory_blocks s.p
  pub page : (cell_of s b).page ≡ x
  pub in_page : n ≡ b % 64

pub IsBlockOf-entry : (s : State) → AreSoundTables s → (j : ℕ) (x : PttEntry) → entry_at s.ptt j ≡ Some x → (n : ℕ) → n < 64
    → IsBlockOf s x n (page_blocks * x.page + n)
IsBlockOf-entry s t j x e n few =
    let there = entry_for-there page_key no_page s.ptt t.ptt_once j x e in
    let page : page_of (page_blocks * x.page + n) ≡ x.page = omega (arith, few) in
    record {
      inside = omega (arith, few, there.2, t.ptt_numbers);
      page = ap (λ (k : ℕ). entry_for page_key no_page k s.ptt) page ∙ there.1;
      in_page = omega (arith, few);
    }
