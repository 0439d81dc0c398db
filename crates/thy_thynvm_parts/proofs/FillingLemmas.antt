-- What holds of what this scheme's boot fills.
use Rattle.std.proofs.Common.{◌≡◌, ℕ, true, false, List, [], length, map, replicate, is_some, Option, None, refl, sym, ◌∙◌, ap, inr, arith, ◌+◌, ◌*◌, ◌/◌, ◌%◌, ◌<◌, ◌≤◌, max, Some, subst, inl, rules}
use Rattle.std.proofs.lemmas.List.{length-map, length-replicate, get_or-replicate, ext_get_or, get_or_past, length-set}
use Rattle.thy_block.specs.declared.block.Block.{Block}
use Rattle.thy_block.specs.declared.parameters.Parameters.{Parameters}
use Rattle.thy_table.specs.declared.place.Place.TheVariants.{Frame, AlternatePage}
use Rattle.thy_block.specs.Device.{Device, block_at, newest}
use Rattle.thy_table.specs.Places.{number_of, image_blocks}
use Rattle.thy_block.proofs.DeviceLemmas.{newest-empty}
use Rattle.thy_table.specs.BetweenCheckpoints.{FrameLoads}
use Rattle.thy_record.specs.Images.{memory_numbers}
use Rattle.thy_record.specs.Slots.{tables_in}
use Rattle.thy_record.specs.Tables.{Tables}
use Rattle.thy_layout.proofs.AskingLemmas.{map-alike}
use Rattle.thy_control.specs.CheckpointTables.{tables0}
use Rattle.thy_control.specs.State.{State, AreSoundTables, IsSized, cell_of, reads}
use Rattle.thy_control.specs.Stays.{HoldAll}
use Rattle.thy_control.proofs.FrameLemmas.{HoldAll-framed, LoadsFrame-frame}
use Rattle.thy_control.proofs.TablesLemmas.{AreTablesOf-committed}
use Rattle.thy_table.specs.Listing.{entry_at as live_at, first_from}
use Rattle.thy_layout.specs.Layout.{blocks_at, slot_in, memory_in}
use Rattle.thy_record.specs.ThynvmLayouts.{thynvm_layouts}
use Rattle.thy_record.proofs.IssuingLemmas.{thynvm_are_layouts}
use Rattle.thy_checkpoint.specs.Filling.{IsFilling}
use Rattle.thy_thynvm_parts.proofs.AnewLemmas.{renewed_is_the_same}
use Rattle.thy_thynvm_parts.specs.Filling.{IsEmpty, ListsSlot, loads, next_position, page_place, filling_thynvm, position_in, with_filled}
use Rattle.thy_thynvm_parts.specs.Start.{no_tables}
use Rattle.thy_thynvm_parts.proofs.LiveLemmas.{live_in_tables, framed_inside}
use Rattle.thy_thynvm_parts.proofs.OnceLemmas.{slot_listed_once}
use Rattle.thy_thynvm_parts.proofs.StartLemmas.{first_memory, first_back, first_faultless}
use Rattle.thy_thynvm_parts.proofs.WorkLemmas.{loads-are}
use Rattle.std.proofs.lemmas.Bool.{cases_eq, cases_lt, both_ways}
use Rattle.thy_block.proofs.BasicLemmas.{some_same}
use Rattle.thy_dram.specs.Contents.{Contents}
use Rattle.thy_layout.specs.Entries.{entry_at}
use Rattle.thy_table.proofs.FirstLemmas.{first_from-first, first_from-is, none-first_from}
use Rattle.thy_table.specs.Sound.{Holds}
use Rattle.thy_control.specs.Boot.{MayFrame, framed_block, with_frame, LoadsFrame}
use Rattle.thy_thynvm_parts.proofs.BootSlotLemmas.{size_of_ptt}

-- ---- positions

-- the next position from one on lies in the first page that is listed at its entry or after it
pub record IsPosition (p : Parameters) (slot : List Block) (from k : ℕ) : Type 0 where
  pub j : ℕ
  pub above : from / 64 ≤ j
  pub inside : j < p.ptt
  pub is : k ≡ max from (64 * j)
  pub here : is_some (entry_at (tables_in p slot).ptt j) ≡ true
  pub before : (i : ℕ) → from / 64 ≤ i → i < j → is_some (entry_at (tables_in p slot).ptt i) ≡ false

pub IsPosition-next : (p : Parameters) (slot : List Block) (from k : ℕ) → next_position p slot from ≡ Some k → IsPosition p slot from k
IsPosition-next p slot from k h = by_first (first_from is_some (from / 64) (tables_in p slot).ptt) refl h where
  by_first : (o : Option ℕ) → first_from is_some (from / 64) (tables_in p slot).ptt ≡ o → position_in from o ≡ Some k
      → IsPosition p slot from k
  by_first None e h = cc
  by_first (Some j) e h =
      let first = first_from-first is_some None (tables_in p slot).ptt (from / 64) j e in
      record {
        j = j;
        above = first.above;
        inside = omega (arith, first.inside, size_of_ptt p slot);
        is = some_same k (max from (64 * j)) (sym h);
        here = first.here;
        before = first.before;
      }

module _ (p : Parameters) (slot : List Block) (from k : ℕ) (h : IsPosition p slot from k) where
  pub entry_is : k / 64 ≡ h.j
  entry_is = omega (arith, h.above, h.is)

  pub position_inside : k < 64 * p.ptt
  position_inside = omega (arith, h.above, h.is, h.inside)

  pub position_above : from ≤ k
  position_above = omega (arith, h.is)

  pub place_inside : (c : State) → c.p ≡ p → page_place c k < image_blocks p
  place_inside c same =
      let k_is : 64 * (k / 64) + k % 64 ≡ k = omega arith in
      subst (λ (q : Parameters). number_of q (AlternatePage (k / 64) (k % 64)) < image_blocks p) (sym same) (omega (arith, k_is, position_inside))

  -- a position that is the next one is the next one from itself on
  pub position_again : next_position p slot k ≡ Some k
  position_again =
      let ptt : List (Option ℕ) = (tables_in p slot).ptt in
      let first : first_from is_some (k / 64) ptt ≡ Some h.j
      = first_from-is is_some None ptt (k / 64) h.j (omega (arith, entry_is)) (omega (arith, h.inside, size_of_ptt p slot)) h.here
      (λ i above below. absurd (omega (arith, above, below, entry_is))) in
      let largest : max k (64 * h.j) ≡ k = omega (arith, h.is) in
      ap (position_in k) first ∙ ap Some largest

-- if there is none, no page is listed from there on
pub none_listed_from : (p : Parameters) (slot : List Block) (from : ℕ) → next_position p slot from ≡ None
    → (i : ℕ) → from / 64 ≤ i → is_some (entry_at (tables_in p slot).ptt i) ≡ false
none_listed_from p slot from h i above = by_first (first_from is_some (from / 64) (tables_in p slot).ptt) refl h where
  by_first : (o : Option ℕ) → first_from is_some (from / 64) (tables_in p slot).ptt ≡ o → position_in from o ≡ None
      → is_some (entry_at (tables_in p slot).ptt i) ≡ false
  by_first (Some j) e h = cc
  by_first None e h = elim (cases_lt i (length (tables_in p slot).ptt)) as (λ _. is_some (entry_at (tables_in p slot).ptt i) ≡ false) [
    | inl inside ↦ none-first_from is_some None (tables_in p slot).ptt (from / 64) e i above inside
    | inr past ↦ ap is_some (get_or_past (tables_in p slot).ptt i None past)
  ]

-- ---- a controller that lists a slot

module _ (commit : Block) (slot : List Block) (c : State) (l : ListsSlot commit slot c) where
  -- a page is live exactly if the slot lists it
  pub live_listed : (j : ℕ) → is_some (live_at c.ptt j) ≡ is_some (entry_at (tables_in c.p slot).ptt j)
  live_listed j = live_in_tables c l.booting j ∙ ap (λ (t : Tables). is_some (entry_at t.ptt j)) l.are

  module _ (n : Device) where
    abbrev FilledTo : ℕ → Type 0
    FilledTo k = (i m : ℕ) → MayFrame i m c → 64 * i + m < k → Holds (reads c n) (cell_of c (framed_block i m c))

    -- what was passed over is not listed
    pub filled_next : (from k : ℕ) → IsPosition c.p slot from k → FilledTo from → FilledTo k
    filled_next from k h filled i m may below = elim (cases_lt (64 * i + m) from) as (λ _. Holds (reads c n) (cell_of c (framed_block i m c))) [
      | inl less ↦ filled i m may less
      | inr more ↦
          let none : is_some (entry_at (tables_in c.p slot).ptt i) ≡ false
          = h.before i (omega (arith, more, may.inside)) (omega (arith, more, below, h.is)) in
          absurd (both_ways _ none (sym (live_listed i) ∙ may.listed))
    ]

    pub filled_all : (from : ℕ) → next_position c.p slot from ≡ None → FilledTo from
        → (i m : ℕ) → MayFrame i m c → Holds (reads c n) (cell_of c (framed_block i m c))
    filled_all from h filled i m may = elim (cases_lt (64 * i + m) from) as (λ _. Holds (reads c n) (cell_of c (framed_block i m c))) [
      | inl less ↦ filled i m may less
      | inr more ↦
          let none = none_listed_from c.p slot from h i (omega (arith, more, may.inside)) in
          absurd (both_ways _ none (sym (live_listed i) ∙ may.listed))
    ]

-- ---- another content of the DRAM

-- another DRAM of the same size leaves the tables sound
pub AreSoundTables-dram : (c : State) (d : Contents) → length d.blocks ≡ length c.dram.blocks → AreSoundTables c
    → AreSoundTables (record c { dram = d })
AreSoundTables-dram c d long t = search (rules, long ∙ t.dram_size)

pub ListsSlot-dram : (commit : Block) (slot : List Block) (c : State) (d : Contents) → length d.blocks ≡ length c.dram.blocks
    → ListsSlot commit slot c → ListsSlot commit slot (record c { dram = d })
ListsSlot-dram commit slot c d long l = search (rules, AreSoundTables-dram c d long l.tables)

-- ---- a position is filled

pub filled_is_framed : (k : ℕ) (c : State) (n : Device) → with_frame (k / 64) (k % 64) c n ≡ with_filled k (newest n (page_place c k)) c
unfolding with_frame
filled_is_framed k c n = refl

module _ (commit : Block) (slot : List Block) (c : State) (n : Device) (k : ℕ) (l : ListsSlot commit slot c)
    (next : next_position c.p slot k ≡ Some k)
    (sized : length n.image ≡ image_blocks c.p) (law : FrameLoads) where
  abbrev d : State
  d = with_filled k (newest n (page_place c k)) c

  at : IsPosition c.p slot k k
  at = IsPosition-next c.p slot k k next

  pub may_fill : MayFrame (k / 64) (k % 64) c
  may_fill = record {
    listed = live_listed commit slot c l (k / 64)
        ∙ ap (λ (j : ℕ). is_some (entry_at (tables_in c.p slot).ptt j)) (entry_is c.p slot k k at) ∙ at.here;
    inside = omega arith;
  }

  is_sized : IsSized c n
  is_sized = record { nvm = sized }

  loads_frame : LoadsFrame (k / 64) (k % 64) c n d n
  loads_frame =
      subst (λ (x : State). LoadsFrame (k / 64) (k % 64) c n x n) (filled_is_framed k c n)
      (LoadsFrame-frame (k / 64) (k % 64) c l.tables l.booting may_fill n is_sized law)

  long : length d.dram.blocks ≡ length c.dram.blocks
  long = length-set c.dram.blocks (number_of c.p (Frame (k / 64) (k % 64))) (newest n (page_place c k))

  pub lists_filled : ListsSlot commit slot d
  lists_filled = ListsSlot-dram commit slot c d.dram long l

  pub fills_to : ((i m : ℕ) → MayFrame i m c → 64 * i + m < k → Holds (reads c n) (cell_of c (framed_block i m c)))
      → (i m : ℕ) → MayFrame i m d → 64 * i + m < k + 1 → Holds (reads d n) (cell_of d (framed_block i m d))
  fills_to filled i m may below =
      let was : MayFrame i m c = record { listed = may.listed; inside = may.inside } in
      elim (cases_eq (64 * i + m) k) as (λ _. Holds (reads d n) (cell_of d (framed_block i m c))) [
        | inl e ↦
            let i_is : i ≡ k / 64 = omega (arith, e, may.inside) in
            let m_is : m ≡ k % 64 = omega (arith, e, may.inside) in
            subst (λ (x : ℕ). Holds (reads d n) (cell_of d (framed_block x m c))) (sym i_is)
            (subst (λ (x : ℕ). Holds (reads d n) (cell_of d (framed_block (k / 64) x c))) (sym m_is) loads_frame.here)
        | inr ne ↦ loads_frame.others (framed_block i m c) (framed_inside c i m l.tables was) (filled i m was (omega (arith, below, ne)))
      ]

-- ---- what the boot fills

-- ---- with all filled

module _ (c : State) (n : Device) (commit : Block) (slot : List Block) (from : ℕ) (l : ListsSlot commit slot c)
    (none : next_position c.p slot from ≡ None)
    (settled : n.queue ≡ []) (is : slot_in (thynvm_layouts c.p) n.image ≡ slot) where
  held : filling_thynvm.filled c n from → HoldAll c n
  held filled = HoldAll-framed c n l.tables l.booting (filled_all commit slot c l n from none filled)

  memory_same : HoldAll c n → loads c n ≡ memory_in (thynvm_layouts c.p) n.image
  memory_same holds =
      loads-are c n l.tables l.booting holds settled AreTablesOf-committed
      ∙ ap (λ (t : Tables). blocks_at n.image (memory_numbers c.p t)) (l.are ∙ ap (tables_in c.p) (sym is))

-- ---- a drain of the DRAM

fresh_drained : (c : State) → IsEmpty c → IsEmpty (filling_thynvm.drained c)
fresh_drained c e =
    search (rules, AreSoundTables-dram c (filling_thynvm.drained c).dram refl e.tables)

-- ---- a start

-- a controller that lists nothing has memory at home
module _ (c : State) (n : Device) (e : IsEmpty c) (settled : n.queue ≡ []) where
  pub none_listed : tables0 c ≡ no_tables c.p
  none_listed =
      let p : Parameters = c.p in
      let blocks : length (tables0 c).btt ≡ p.btt = length-map c.btt.entries _ ∙ e.tables.btt_size in
      let pages : length (tables0 c).ptt ≡ p.ptt = length-map c.ptt.entries _ ∙ e.tables.ptt_size in
      let btt : (tables0 c).btt ≡ replicate p.btt None
      = ext_get_or None (tables0 c).btt (replicate p.btt None) (blocks ∙ sym (length-replicate p.btt None))
      (λ k l. e.fresh.no_blocks k ∙ sym (get_or-replicate p.btt k None None (omega (arith, l, blocks)))) in
      let ptt : (tables0 c).ptt ≡ replicate p.ptt None
      = ext_get_or None (tables0 c).ptt (replicate p.ptt None) (pages ∙ sym (length-replicate p.ptt None))
      (λ k l. e.fresh.no_pages k ∙ sym (get_or-replicate p.ptt k None None (omega (arith, l, pages)))) in
      ap (λ (x : List (Option ℕ)). record (tables0 c) { btt = x }) btt ∙ ap (λ (x : List (Option ℕ)). record (no_tables p) { ptt = x }) ptt

  pub all_hold : HoldAll c n
  all_hold = HoldAll-framed c n e.tables e.fresh.booting (λ j k may.
      let none : is_some (live_at c.ptt j) ≡ false = live_in_tables c e.fresh.booting j ∙ ap is_some (e.fresh.no_pages j) in
      let both : true ≡ false = sym may.listed ∙ none in absurd (cc))

  pub loads_first : loads c n ≡ map (newest n) (memory_numbers c.p (no_tables c.p))
  loads_first =
      loads-are c n e.tables e.fresh.booting all_hold settled AreTablesOf-committed
      ∙ ap (λ (t : Tables). blocks_at n.image (memory_numbers c.p t)) none_listed
      ∙ map-alike (block_at n.image) (newest n) (memory_numbers c.p (no_tables c.p)) (λ x inside. sym (newest-empty n x settled))

-- ---- all of it

pub frame_loads : FrameLoads
frame_loads = grind arith

pub filling_is_lawful : IsFilling filling_thynvm
filling_is_lawful = record {
  laid = thynvm_are_layouts;
  begins = λ c n commit slot lists i m may below. absurd (omega (arith, below));
  next = λ c n commit slot from k lists filled next.
      let at : IsPosition c.p slot from k = IsPosition-next c.p slot from k next in (
        position_inside c.p slot from k at,
        place_inside c.p slot from k at c refl,
        filled_next commit slot c lists n from k at filled,
        position_again c.p slot from k at,
      );
  above = λ p commit slot from k next.
      let at : IsPosition p slot from k = IsPosition-next p slot from k next in
      (position_above p slot from k at, position_inside p slot from k at);
  fills = λ c n commit slot k lists filled next settled sized at. (
    lists_filled commit slot c n k lists next sized frame_loads,
    fills_to commit slot c n k lists next sized frame_loads filled,
    refl,
  );
  fill_acts = λ c n commit k.
      inr (record { at = number_of c.p (Frame _ _); block = newest n (page_place c k); left = refl; nvm = refl });
  fill_keeps = λ c commit k block. record { room = refl; most = omega arith; counts = refl };
  same_keeps = λ c. record { room = refl; most = omega arith; counts = refl };
  ends = λ c n commit slot from lists filled none settled sized at is.
      let holds : HoldAll c n = held c n commit slot from lists none settled is filled in
      (holds, memory_same c n commit slot from lists none settled is holds);
  renews = renewed_is_the_same;
  lists_once = slot_listed_once;
  drain_p = λ c. refl;
  drain_fresh = fresh_drained;
  drain_lists = λ c commit slot lists. ListsSlot-dram commit slot c (filling_thynvm.drained c).dram refl lists;
  drain_filled = λ c n k filled i m may below. filled i m (record { listed = may.listed; inside = may.inside }) below;
  drain_whole = λ c n holds. holds;
  drain_loads = λ c n. refl;
  first_fits = λ p s can. first_faultless p s can;
  first_cpu = λ p s can. (first_back p s can).cpu_back;
  first_loads = λ c n s e settled. loads_first c n e settled ∙ ap (map (newest n)) (sym (first_memory c.p s e.tables.range));
}
