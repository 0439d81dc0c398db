-- The load of a listed page's block into its frame.
use Rattle.std.proofs.Common.{◌≡◌, ◌≢◌, ℕ, ◌+◌, ◌*◌, ◌%◌, ◌<◌, Bool, true, false, refl, sym, ◌∙◌, ap, subst, arith, Option, Some, None, is_some, unwrap_or, Result, Ok, Err, OnOk, OnErr}
use Rattle.thy_block.specs.declared.block.Block.{Block}
use Rattle.thy_table.specs.declared.place.Place.{Place}
use Rattle.thy_table.specs.declared.place.Place.TheVariants.{AlternatePage, Frame}
use Rattle.thy_block.specs.Device.{Device, newest}
use Rattle.thy_block.specs.Geometry.{memory_blocks}
use Rattle.thy_table.specs.Places.{IsPlace, number_of}
use Rattle.thy_block.specs.Store.{page_of}
use Rattle.thy_dram.specs.Contents.{Contents, written}
use Rattle.thy_table.specs.Listing.{entry_at, lists, index_of}
use Rattle.thy_table.proofs.IndexLemmas.{lists-key, lists-inside}
use Rattle.thy_table.specs.declared.block_entry.BttEntry.{BttEntry}
use Rattle.thy_table.specs.declared.block_entry.Version.{Version}
use Rattle.thy_table.specs.declared.block_entry.Version.TheVariants.{Out, Alt}
use Rattle.thy_table.specs.declared.block_entry.Working.TheVariants.{NoWork}
use Rattle.thy_table.specs.declared.page_entry.PttEntry.{PttEntry}
use Rattle.thy_table.specs.declared.page_entry.Site.{Site}
use Rattle.thy_table.specs.declared.page_entry.Site.TheVariants.{AtHome, AtAlternate}
use Rattle.thy_table.specs.BlockEntry.{new_entry}
use Rattle.thy_table.specs.PageEntry.{no_page, listed_page, is_framed}
use Rattle.thy_table.specs.declared.cell.Cell.{Cell}
use Rattle.thy_table.specs.Cells.{seat_of, frame_at, placed, penult}
use Rattle.thy_table.specs.Sound.{IsSoundCell, Holds}
use Rattle.thy_table.specs.BetweenCheckpoints.{FrameLoads, Loads, Keeps}
use Rattle.thy_control.specs.Find.{entry_for}
use Rattle.thy_control.specs.Keys.{block_key, page_key}
use Rattle.thy_control.specs.State.{State, AreSoundTables, IsSized, cell_of, penult_of, last_of, work_of, reads}
use Rattle.thy_control.specs.Boot.{IsBooting, MayFrame, page_in, framed_block, with_frame, LoadsFrame}
use Rattle.thy_control.specs.Stays.{HoldAll}
use Rattle.thy_control.specs.Versions.{KeepsCheckpoints}
use Rattle.thy_control.proofs.FindLemmas.{found_entry, entry_for-some, entry_for-none, by_number}
use Rattle.thy_control.proofs.StateLemmas.{block-cell_of, IsWithin-cell_of}
use Rattle.thy_control.proofs.KeepLemmas.{IsPlace-frame_of}
use Rattle.thy_control.proofs.TablesLemmas.{owner, Owns-cell_of}
use Rattle.thy_control.proofs.StepLemmas.{Keeps-untouched, puts, untouched}

-- a table's entry that is there
live : {E : Type 0} (o : Option E) → is_some o ≡ true → (e : E) × (o ≡ Some e)
live None h = cc
live (Some e) h = (e, refl)

pub IsBooting-frame : (j k : ℕ) (s : State) (n : Device) → IsBooting s → IsBooting (with_frame j k s n)
unfolding with_frame
IsBooting-frame j k s n boot = record { idle = boot.idle; blocks = boot.blocks; pages = boot.pages }

module _ (j k : ℕ) (s : State) (t : AreSoundTables s) (boot : IsBooting s) (may : MayFrame j k s) where
  found : (e : PttEntry) × (entry_at s.ptt j ≡ Some e)
  found = live (entry_at s.ptt j) may.listed

  abbrev n : ℕ
  n = found.0.page

  abbrev b : ℕ
  b = 64 * n + k

  is_block : framed_block j k s ≡ b
  is_block = ap (λ (o : Option PttEntry). 64 * page_in o + k) found.1

  is_page : page_of b ≡ n
  is_page = omega (arith, may.inside)

  is_rest : b % 64 ≡ k
  is_rest = omega (arith, may.inside)

  there : lists page_key n (entry_at s.ptt j) ≡ true
  there = lists-key page_key n (entry_at s.ptt j) found.0 found.1 refl

  pub entry_inside : j < s.p.ptt
  entry_inside = omega (arith, lists-inside page_key s.ptt.entries j n there, t.ptt_size)

  place : index_of page_key (page_of b) s.ptt ≡ Some j
  place = ap (λ (m : ℕ). index_of page_key m s.ptt) is_page ∙ t.ptt_once.found j n there

  in_memory : b < memory_blocks s.p
  in_memory = omega (arith, t.ptt_once.inside j n there, t.ptt_numbers, may.inside)

  abbrev c : Cell
  c = cell_of s b

  j_is : c.j ≡ j
  j_is = ap (λ (o : Option ℕ). unwrap_or o 0) place

  page_is : c.page ≡ listed_page n
  page_is = entry_for-some page_key no_page s.ptt (page_of b) j found.0 place found.1 ∙ boot.pages j found.0 found.1

  idle_entry : c.entry.work ≡ NoWork
  idle_entry = by_place (index_of block_key b s.btt) refl where
    by_place : (o : Option ℕ) → index_of block_key b s.btt ≡ o → (entry_for block_key new_entry b s.btt).work ≡ NoWork
    by_place None h = ap (λ (e : BttEntry). e.work) (entry_for-none block_key new_entry s.btt b h)
    by_place (Some i) h =
        let f = found_entry block_key new_entry s.btt b i h in
        ap (λ (e : BttEntry). e.work) (entry_for-some block_key new_entry s.btt b i f.0 h f.1)
        ∙ ap (λ (e : BttEntry). e.work) (boot.blocks i f.0 f.1)

  sound_c : IsSoundCell false c
  sound_c = subst (λ (w : Bool). IsSoundCell w c) boot.idle (t.cells b in_memory)

  out : c.entry.v0 ≡ Out
  out = by_version c.entry.v0 refl where
    by_version : (v : Version) → c.entry.v0 ≡ v → c.entry.v0 ≡ Out
    by_version Out h = h
    by_version Alt h = let home : AtAlternate ≡ AtHome = sym (ap (λ (e : PttEntry). e.place) page_is) ∙ sound_c.apart0 h in absurd (cc)

  block_rest : c.entry.block % 64 ≡ k
  block_rest = ap (λ (m : ℕ). m % 64) (block-cell_of s b) ∙ is_rest

  penult_is : penult c ≡ AlternatePage j k
  penult_is =
      ap (λ (v : Version). placed v c.page.place (seat_of c)) out
      ∙ ap (λ (x : Site). placed Out x (seat_of c)) (ap (λ (e : PttEntry). e.place) page_is)
      ∙ ap (λ (m : ℕ). AlternatePage m (c.entry.block % 64)) j_is ∙ ap (AlternatePage j) block_rest

  frame_is : frame_at (seat_of c) ≡ Frame j k
  frame_is = ap (λ (m : ℕ). Frame m (c.entry.block % 64)) j_is ∙ ap (Frame j) block_rest

  listed : c.page ≢ no_page (page_of b)
  listed e = let no : AtAlternate ≡ AtHome = sym (ap (λ (x : PttEntry). x.place) page_is) ∙ ap (λ (x : PttEntry). x.place) e in cc

  module _ (m : Device) (sized : IsSized s m) where
    abbrev y : Place
    y = frame_at (seat_of c)

    abbrev old : Place → Block
    old = reads s m

    owns : owner s y ≡ Some b
    owns = (Owns-cell_of s b).of_page listed

    frame_there : IsPlace s.p y
    frame_there = IsPlace-frame_of s b t in_memory

    -- the controller after that write
    abbrev w : State
    w = record s { dram = written s.dram (number_of s.p y) (old (penult c)) }

    state_is : with_frame j k s m ≡ w
    unfolding with_frame
    state_is =
        ap (λ (q : Place). record s { dram = written s.dram (number_of s.p q) (newest m (number_of s.p (AlternatePage j k))) }) (sym frame_is)
        ∙ ap (λ (q : Place). record s { dram = written s.dram (number_of s.p y) (old q) }) (sym penult_is)

    module _ (law : FrameLoads) where
      loads : Loads old (reads w m) c
      loads = law s.p c old (reads w m) (IsWithin-cell_of s b t in_memory) sound_c
          (ap is_framed page_is) (ap (λ (e : PttEntry). e.fresh) page_is) idle_entry
          (puts s m b y (old (penult c)) t sized frame_there owns)

      others : (x : ℕ) → x < memory_blocks s.p → x ≢ b → Keeps s.under_way old (reads w m) (cell_of s x) (cell_of w x)
      others x l ne = Keeps-untouched s.under_way old (reads w m) x (cell_of s x) (t.cells x l)
          (untouched s m b y (old (penult c)) t sized frame_there owns x l ne)

      hold_others : (x : ℕ) → x < memory_blocks s.p → Holds old (cell_of s x) → Holds (reads w m) (cell_of w x)
      hold_others x l =
          by_number (λ z. Holds old (cell_of s z) → Holds (reads w m) (cell_of w z)) b x
          (λ h. loads.holds) (λ ne. (others x l ne).holds)

      LoadsFrame-w : LoadsFrame j k s m w m
      LoadsFrame-w = record {
        inside = subst (λ (z : ℕ). z < memory_blocks s.p) (sym is_block) in_memory;
        here = subst (λ (z : ℕ). Holds (reads w m) (cell_of w z)) (sym is_block) loads.holds;
        given = subst (λ (z : ℕ). work_of w m z ≡ penult_of s m z) (sym is_block) loads.reads.work_gives;
        others = hold_others;
      }

      KeepsCheckpoints-w : KeepsCheckpoints s m w m
      KeepsCheckpoints-w = record {
        penult_same = λ x l. by_number (λ z. penult_of w m z ≡ penult_of s m z) b x
            loads.reads.penult_same (λ ne. (others x l ne).reads.penult_same);
        last_same = λ x l. by_number (λ z. last_of w m z ≡ last_of s m z) b x
            loads.reads.last_same (λ ne. (others x l ne).reads.last_same);
      }

      pub LoadsFrame-frame : LoadsFrame j k s m (with_frame j k s m) m
      LoadsFrame-frame = subst (λ (x : State). LoadsFrame j k s m x m) (sym state_is) LoadsFrame-w

      pub KeepsCheckpoints-frame : KeepsCheckpoints s m (with_frame j k s m) m
      KeepsCheckpoints-frame = subst (λ (x : State). KeepsCheckpoints s m x m) (sym state_is) KeepsCheckpoints-w

-- if no entry lists the page of a block, nothing has to be held of the block
pub hold-bare : (reads : Place → Block) (d : Cell) (page : ℕ) → d.page ≡ no_page page → Holds reads d
hold-bare reads d page bare = record {
  clean = λ f x z. let no : true ≡ false = sym f ∙ ap is_framed bare in absurd (cc);
  copied = λ x f. let no : true ≡ false = sym f ∙ ap (λ (e : PttEntry). e.fresh) bare in absurd (cc);
  issued = λ f x. let no : true ≡ false = sym f ∙ ap (λ (e : PttEntry). e.busy) bare in absurd (cc);
}

-- if the places of every block of a listed page hold what they have to, all places do
pub HoldAll-framed : (s : State) (n : Device) → AreSoundTables s → IsBooting s
    → ((j k : ℕ) → MayFrame j k s → Holds (reads s n) (cell_of s (framed_block j k s))) → HoldAll s n
HoldAll-framed s n t boot frames b l = by_place (index_of page_key (page_of b) s.ptt) refl where
  by_place : (o : Option ℕ) → index_of page_key (page_of b) s.ptt ≡ o → Holds (reads s n) (cell_of s b)
  by_place None h = hold-bare (reads s n) (cell_of s b) (page_of b) (entry_for-none page_key no_page s.ptt (page_of b) h)
  by_place (Some j) h =
      let f = found_entry page_key no_page s.ptt (page_of b) j h in
      let may : MayFrame j (b % 64) s = record { listed = ap is_some f.1; inside = omega arith } in
      let is : framed_block j (b % 64) s ≡ b = ap (λ (o : Option PttEntry). 64 * page_in o + b % 64) f.1 ∙ omega (arith, f.2) in
      subst (λ (z : ℕ). Holds (reads s n) (cell_of s z)) is (frames j (b % 64) may)

-- what the code writes
pub frame_put_is : (j k : ℕ) {s w : State} → w ≡ s → (m : Device) {x : ℕ} {v : Block} {d : Contents}
    → x ≡ number_of w.p (Frame j k) → v ≡ reads s m (AlternatePage j k) → d ≡ written w.dram x v → record w { dram = d } ≡ with_frame j k s m
unfolding with_frame
frame_put_is j k view m x_is v_is d_is = cc

pub IsBooting-after : {T E : Type 0} (j k : ℕ) (s t : State) (n : Device) (r : Result T E) → IsBooting s → OnOk r (t ≡ with_frame j k s n)
    → OnErr r (t ≡ s) → IsBooting t
IsBooting-after j k s t n (Ok x) boot e f = subst IsBooting (sym e) (IsBooting-frame j k s n boot)
IsBooting-after j k s t n (Err x) boot e f = subst (λ (u : State). IsBooting u) (sym f) boot
