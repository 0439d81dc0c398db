-- The tables of both checkpoints: what they list, and the places at which they have each block; places of two blocks are two places.
use Rattle.std.proofs.Common.{◌≡◌, ◌≢◌, ℕ, ◌+◌, ◌*◌, ◌%◌, Bool, true, false, if◌then◌else◌, refl, sym, ◌∙◌, ap, arith, Option, Some, ◌<◌, List, map, None, option_and_then, unwrap_or}
use Rattle.std.specs.Option.{option_map}
use Rattle.thy_table.specs.declared.place.Place.{Place}
use Rattle.thy_table.specs.declared.place.Place.TheVariants.{Home, AlternateBlock, AlternatePage, Buffer, Frame}
use Rattle.thy_block.specs.Store.{page_of}
use Rattle.thy_table.specs.Listing.{entry_at, index_of, Listing, IsListing, lists}
use Rattle.thy_table.specs.declared.block_entry.BttEntry.{BttEntry}
use Rattle.thy_table.specs.declared.block_entry.Version.{Version}
use Rattle.thy_table.specs.declared.block_entry.Version.TheVariants.{Out, Alt}
use Rattle.thy_table.specs.declared.block_entry.Pending.{Pending}
use Rattle.thy_table.specs.declared.block_entry.Pending.TheVariants.{Settled, FromBuffer, FromAlternate}
use Rattle.thy_table.specs.declared.block_entry.Working.{Working}
use Rattle.thy_table.specs.declared.block_entry.Working.TheVariants.{NoWork, InNvm, InBuffer}
use Rattle.thy_table.specs.declared.page_entry.Site.{Site}
use Rattle.thy_table.specs.declared.page_entry.Site.TheVariants.{AtHome, AtAlternate}
use Rattle.thy_table.specs.declared.page_entry.PttEntry.{PttEntry}
use Rattle.thy_table.specs.BlockEntry.{new_entry, other_version}
use Rattle.thy_table.specs.PageEntry.{no_page, is_framed}
use Rattle.thy_table.specs.declared.cell.Cell.{Cell}
use Rattle.thy_table.specs.declared.cell.StoreRule.{StoreRule}
use Rattle.thy_table.specs.declared.cell.StoreRule.TheVariants.{ToFrame, ToBuffer, ToNvm, PendingFirst}
use Rattle.thy_table.specs.Cells.{seat_of, frame_at, alternate_at, placed, pending_at, worked_at, penult, target, last, work}
use Rattle.thy_table.specs.Rules.{store_place}
use Rattle.thy_control.specs.Keys.{block_key, page_key}
use Rattle.thy_control.specs.State.{State, cell_of, AreSoundTables}
use Rattle.thy_control.proofs.FindLemmas.{found_entry, entry_for-some, entry_for-none}
use Rattle.thy_control.proofs.StateLemmas.{block-cell_of, IsListed, index_of-index}
use Rattle.std.proofs.lemmas.List.{length-map}
use Rattle.std.proofs.Math.ListN.{get_or-map}
use Rattle.thy_block.specs.Geometry.{memory_blocks}
use Rattle.thy_table.proofs.IndexLemmas.{lists-key}
use Rattle.thy_layout.specs.Entries.{Lists, entry_of}
use Rattle.thy_record.specs.Tables.{Tables, place_by_entries, place_of as place_in, IsTables}
use Rattle.thy_layout.proofs.EntryLemmas.{entry_of-absent, entry_of-listed}
use Rattle.thy_control.specs.Find.{entry_for, index_for}
use Rattle.thy_control.specs.CheckpointTables.{entry_lists, page_lists, tables_by, tables0, tables1, AreTablesOf}

abbrev block_in_page : ℕ → PttEntry → ℕ
block_in_page k e = 64 * e.page + k

-- the block that a place belongs to, by the tables
abbrev pub owner : State → Place → Option ℕ
owner t (Home b) = Some b
owner t (AlternateBlock i) = option_map block_key (entry_at t.btt i)
owner t (Buffer i) = option_map block_key (entry_at t.btt i)
owner t (AlternatePage j k) = option_map (block_in_page k) (entry_at t.ptt j)
owner t (Frame j k) = option_map (block_in_page k) (entry_at t.ptt j)

-- what a cell has of its block's entries belongs to the block
pub record Owns (t : State) (m : ℕ) (c : Cell) : Type 0 where
  pub of_block : c.entry.block ≡ m
  pub of_entry : c.entry ≢ new_entry m → owner t (alternate_at (seat_of c)) ≡ Some m
  pub of_page : c.page ≢ no_page (page_of m) → owner t (frame_at (seat_of c)) ≡ Some m

pub owner-listed : (t : State) (m i : ℕ) → index_of block_key m t.btt ≡ Some i → option_map block_key (entry_at t.btt i) ≡ Some m
owner-listed t m i h = let f = found_entry block_key new_entry t.btt m i h in ap (option_map block_key) f.1 ∙ ap Some f.2

pub owner-page_listed : (t : State) (m j k : ℕ) → k ≡ m % 64 → index_of page_key (page_of m) t.ptt ≡ Some j
    → option_map (block_in_page k) (entry_at t.ptt j) ≡ Some m
owner-page_listed t m j k e h =
    let f = found_entry page_key no_page t.ptt (page_of m) j h in
    let same : block_in_page k f.0 ≡ m = omega (arith, f.2, e) in
    ap (option_map (block_in_page k)) f.1 ∙ ap Some same

pub Owns-cell_of : (t : State) (m : ℕ) → Owns t m (cell_of t m)
Owns-cell_of t m = record {
  of_block = block-cell_of t m;
  of_entry = λ n. owner-listed t m (cell_of t m).i (index_of-index block_key new_entry t.btt m n);
  of_page = λ n. owner-page_listed t m (cell_of t m).j ((cell_of t m).entry.block % 64) (ap (λ b. b % 64) (block-cell_of t m))
      (index_of-index page_key no_page t.ptt (page_of m) n);
}

owned-placed : (t : State) (m : ℕ) (c : Cell) → Owns t m c → (v : Version) (s : Site)
    → (v ≡ Alt → c.entry ≢ new_entry m) → (s ≡ AtAlternate → c.page ≢ no_page (page_of m)) → owner t (placed v s (seat_of c)) ≡ Some m
owned-placed t m c o Alt s e p = o.of_entry (e refl)
owned-placed t m c o Out AtAlternate e p = o.of_page (p refl)
owned-placed t m c o Out AtHome e p = ap Some o.of_block

pub owned-penult : (t : State) (m : ℕ) (c : Cell) → Owns t m c → owner t (penult c) ≡ Some m
owned-penult t m c o = owned-placed t m c o c.entry.v0 c.page.place
    (λ v e. let w : c.entry.v0 ≡ Out = ap (λ (x : BttEntry). x.v0) e in cc)
    (λ s e. let w : c.page.place ≡ AtHome = ap (λ (x : PttEntry). x.place) e in cc)

pub owned-target : (t : State) (m : ℕ) (c : Cell) → Owns t m c → owner t (target c) ≡ Some m
owned-target t m c o = owned-placed t m c o c.entry.v1 c.page.target
    (λ v e. let w : c.entry.v1 ≡ Out = ap (λ (x : BttEntry). x.v1) e in cc)
    (λ s e. let w : c.page.target ≡ AtHome = ap (λ (x : PttEntry). x.target) e in cc)

owned-pending : (t : State) (m : ℕ) (c : Cell) → Owns t m c → (q : Pending) → (q ≢ Settled → c.entry ≢ new_entry m)
    → owner t (pending_at q c.entry.v1 c.page.target (seat_of c)) ≡ Some m
owned-pending t m c o Settled h = owned-target t m c o
owned-pending t m c o FromBuffer h = o.of_entry (h (λ e. cc))
owned-pending t m c o FromAlternate h = o.of_entry (h (λ e. cc))

owned-if : (t : State) (m : ℕ) (b : Bool) (x y : Place) → (b ≡ true → owner t x ≡ Some m) → owner t y ≡ Some m
    → owner t (if b then x else y) ≡ Some m
owned-if t m true x y hx hy = hx refl
owned-if t m false x y hx hy = hy

pub owned-last : (t : State) (m : ℕ) (c : Cell) → Owns t m c → owner t (last c) ≡ Some m
owned-last t m c o = owned-if t m c.page.busy _ _
    (λ b. o.of_page (λ e. let w : c.page.busy ≡ false = ap (λ (x : PttEntry). x.busy) e in cc))
    (owned-pending t m c o c.entry.pend (λ n e. n (ap (λ (x : BttEntry). x.pend) e)))

owned-worked : (t : State) (m : ℕ) (c : Cell) → Owns t m c → (k : Working) → (k ≢ NoWork → c.entry ≢ new_entry m)
    → owner t (worked_at k (is_framed c.page) (last c) c.entry.v0 (seat_of c)) ≡ Some m
owned-worked t m c o NoWork h = owned-if t m (is_framed c.page) _ _
    (λ f. o.of_page (λ e. let w : is_framed c.page ≡ false = ap is_framed e in cc)) (owned-last t m c o)
owned-worked t m c o InNvm h = owned-placed t m c o (other_version c.entry.v0) AtHome (λ v. h (λ e. cc)) (λ s. cc)
owned-worked t m c o InBuffer h = o.of_entry (h (λ e. cc))

pub owned-work : (t : State) (m : ℕ) (c : Cell) → Owns t m c → owner t (work c) ≡ Some m
owned-work t m c o = owned-worked t m c o c.entry.work (λ n e. n (ap (λ (x : BttEntry). x.work) e))

-- the place of a block's store belongs to it
pub owned-store : (rule : StoreRule) (t : State) (b : ℕ) → IsListed rule b t → owner t (store_place rule (cell_of t b)) ≡ Some b
owned-store ToFrame t b l = owner-page_listed t b (cell_of t b).j ((cell_of t b).entry.block % 64)
    (ap (λ n. n % 64) (block-cell_of t b)) (l.page refl)
owned-store ToBuffer t b l = owner-listed t b (cell_of t b).i (l.block (λ e. cc))
owned-store ToNvm t b l = spare (other_version (cell_of t b).entry.v0) where
  spare : (v : Version) → owner t (placed v AtHome (seat_of (cell_of t b))) ≡ Some b
  spare Alt = owner-listed t b (cell_of t b).i (l.block (λ e. cc))
  spare Out = ap Some (block-cell_of t b)
owned-store PendingFirst t b l = owned-target t b (cell_of t b) (Owns-cell_of t b)

-- places of two blocks are two
pub owned-apart : (t : State) (m b : ℕ) (x y : Place) → m ≢ b → owner t x ≡ Some m → owner t y ≡ Some b → x ≢ y
owned-apart t m b x y other hx hy e =
    let both : Some m ≡ Some b = sym hx ∙ ap (owner t) e ∙ hy in
    let same : m ≡ b = cc in
    other same

-- ---- the tables of both checkpoints: what they list, and the places at which they have each block

-- what a checkpoint lists at each entry of a table, if it lists the entry's own number or nothing
module _ {E : Type 0} (key : E → ℕ) (new : ℕ → E) (listed : E → Option ℕ) (of_key : (e : E) (n : ℕ) → listed e ≡ Some n → key e ≡ n)
    (t : Listing E) where
  abbrev listed_in : List (Option ℕ)
  listed_in = map (option_and_then listed) t.entries

  at_entry : (i n : ℕ) → Lists listed_in i n → option_and_then listed (entry_at t i) ≡ Some n
  at_entry i n l = sym (get_or-map (option_and_then listed) t.entries i None) ∙ l.is

  listed_entry : (i n : ℕ) → Lists listed_in i n → (e : E) × (entry_at t i ≡ Some e) × (listed e ≡ Some n)
  listed_entry i n l = by_entry (entry_at t i) refl (at_entry i n l) where
    by_entry : (o : Option E) → entry_at t i ≡ o → option_and_then listed o ≡ Some n
        → (e : E) × (entry_at t i ≡ Some e) × (listed e ≡ Some n)
    by_entry None s h = cc
    by_entry (Some e) s h = (e, s, h)

  lists_number : (i n : ℕ) → Lists listed_in i n → lists key n (entry_at t i) ≡ true
  lists_number i n l = let f = listed_entry i n l in lists-key key n (entry_at t i) f.0 f.1 (of_key f.0 n f.2)

  module _ (once : IsListing key t) where
    found_at : (i n : ℕ) → Lists listed_in i n → index_of key n t ≡ Some i
    found_at i n l = once.found i n (lists_number i n l)

    listed_once : (i k n : ℕ) → Lists listed_in i n → Lists listed_in k n → i ≡ k
    listed_once i k n l m = let both : Some i ≡ Some k = sym (found_at i n l) ∙ found_at k n m in cc

    -- the entry that lists a number is the one that the table has for it
    entry_listed : (i n : ℕ) → Lists listed_in i n → listed (entry_for key new n t) ≡ Some n
    entry_listed i n l = let f = listed_entry i n l in ap listed (entry_for-some key new t n i f.0 (found_at i n l) f.1) ∙ f.2

    -- a number is found exactly if the table's entry for it is listed
    entry_of-listed_in : ((n : ℕ) → listed (new n) ≡ None) → (n : ℕ)
        → entry_of listed_in n ≡ option_map (λ _. index_for key new n t) (listed (entry_for key new n t))
    entry_of-listed_in new_none n = by_place (index_of key n t) refl where
      by_listed : (i : ℕ) (e : E) → index_of key n t ≡ Some i → entry_at t i ≡ Some e → (o : Option ℕ) → listed e ≡ o
          → entry_of listed_in n ≡ option_map (λ _. i) o
      by_listed i e p s None h = entry_of-absent listed_in n (λ k l.
          let f = listed_entry k n l in
          let same : Some k ≡ Some i = sym (found_at k n l) ∙ p in
          let here : k ≡ i = cc in
          let one : Some f.0 ≡ Some e = sym f.1 ∙ ap (entry_at t) here ∙ s in
          let is : f.0 ≡ e = cc in
          let no : Some n ≡ None = sym f.2 ∙ ap listed is ∙ h in
          cc)
      by_listed i e p s (Some m) h =
          let f = found_entry key new t n i p in
          let one : Some f.0 ≡ Some e = sym f.1 ∙ s in
          let is : f.0 ≡ e = cc in
          let number : m ≡ n = sym (of_key e m h) ∙ ap key (sym is) ∙ f.2 in
          let here : Lists listed_in i n =
          record { is = get_or-map (option_and_then listed) t.entries i None ∙ ap (option_and_then listed) s ∙ h ∙ ap Some number } in
          entry_of-listed listed_in n i here (λ k l. listed_once k i n l here)

      by_place : (o : Option ℕ) → index_of key n t ≡ o
          → entry_of listed_in n ≡ option_map (λ _. index_for key new n t) (listed (entry_for key new n t))
      by_place None p =
          entry_of-absent listed_in n (λ i l. let no : Some i ≡ None = sym (found_at i n l) ∙ p in cc)
          ∙ sym (ap (option_map (λ _. index_for key new n t)) (ap listed (entry_for-none key new t n p) ∙ new_none n))
      by_place (Some i) p =
          let f = found_entry key new t n i p in
          let index : index_for key new n t ≡ i = ap (λ o. unwrap_or o 0) p in
          by_listed i f.0 p f.1 (listed f.0) refl
          ∙ ap (λ (k : ℕ). option_map (λ _. k) (listed f.0)) (sym index)
          ∙ ap (λ (e : E). option_map (λ _. index_for key new n t) (listed e)) (sym (entry_for-some key new t n i f.0 p f.1))

entry_is : (v : Version) (m n : ℕ) → entry_lists v m ≡ Some n → (v ≡ Alt) × (m ≡ n)
entry_is Out m n h = cc
entry_is Alt m n h = let same : m ≡ n = cc in (refl, same)

page_is : (s : Site) (m n : ℕ) → page_lists s m ≡ Some n → (s ≡ AtAlternate) × (m ≡ n)
page_is AtHome m n h = cc
page_is AtAlternate m n h = let same : m ≡ n = cc in (refl, same)

-- the place of a block by its entries in both tables
placed-by : (v : Version) (s : Site) (i j m n b : ℕ)
    → place_by_entries (option_map (λ _. i) (entry_lists v m)) (option_map (λ _. j) (page_lists s n)) b
    ≡ placed v s (record { i = i; j = j; block = b })
placed-by Alt s i j m n b = refl
placed-by Out AtAlternate i j m n b = refl
placed-by Out AtHome i j m n b = refl

-- what is asked of the places at which a checkpoint has the blocks and the pages
pub record IsWay (s : State) (version : BttEntry → Version) (site : PttEntry → Site) : Type 0 where
  pub new_out : (b : ℕ) → version (new_entry b) ≡ Out
  pub no_home : (page : ℕ) → site (no_page page) ≡ AtHome
  pub apart : (b : ℕ) → b < memory_blocks s.p → version (cell_of s b).entry ≡ Alt → site (cell_of s b).page ≡ AtHome

module _ (s : State) (version : BttEntry → Version) (site : PttEntry → Site) (t : AreSoundTables s) (way : IsWay s version site) where
  of_block : (e : BttEntry) (n : ℕ) → entry_lists (version e) e.block ≡ Some n → block_key e ≡ n
  of_block e n h = (entry_is (version e) e.block n h).1

  of_page : (e : PttEntry) (n : ℕ) → page_lists (site e) e.page ≡ Some n → page_key e ≡ n
  of_page e n h = (page_is (site e) e.page n h).1

  abbrev block_by : BttEntry → Option ℕ
  block_by e = entry_lists (version e) e.block

  abbrev page_by : PttEntry → Option ℕ
  page_by e = page_lists (site e) e.page

  IsTables-by : IsTables s.p (tables_by version site s)
  IsTables-by = record {
    btt_length = length-map s.btt.entries _ ∙ t.btt_size;
    ptt_length = length-map s.ptt.entries _ ∙ t.ptt_size;
    blocks = λ i b l. let inside = t.btt_once.inside i b (lists_number block_key new_entry block_by of_block s.btt i b l) in
        omega (arith, inside, t.btt_numbers);
    pages = λ j page l. let inside = t.ptt_once.inside j page (lists_number page_key no_page page_by of_page s.ptt j page l) in
        omega (arith, inside, t.ptt_numbers);
    blocks_once = λ i k b l m. listed_once block_key new_entry block_by of_block s.btt t.btt_once i k b l m;
    pages_once = λ j k page l m. listed_once page_key no_page page_by of_page s.ptt t.ptt_once j k page l m;
    apart = λ i j b l m.
        let inside : b < memory_blocks s.p =
        omega (arith, t.btt_once.inside i b (lists_number block_key new_entry block_by of_block s.btt i b l), t.btt_numbers) in
        let alt = (entry_is (version (cell_of s b).entry) _ b (entry_listed block_key new_entry block_by of_block s.btt t.btt_once i b l)).0 in
        let alternate = (page_is (site (cell_of s b).page) _ (page_of b)
        (entry_listed page_key no_page page_by of_page s.ptt t.ptt_once j (page_of b) m)).0 in
        let home = way.apart b inside alt in
        home_is_not (site (cell_of s b).page) home alternate;
  } where
    home_is_not : (x : Site) → x ≡ AtHome → x ≡ AtAlternate → ⊥
    home_is_not x e f = cc

  place-by : (b : ℕ)
      → place_in (tables_by version site s) b ≡ placed (version (cell_of s b).entry) (site (cell_of s b).page) (seat_of (cell_of s b))
  place-by b =
      let c : Cell = cell_of s b in
      let block = entry_of-listed_in block_key new_entry block_by of_block s.btt t.btt_once
      (λ n. ap (λ (v : Version). entry_lists v n) (way.new_out n)) b in
      let page = entry_of-listed_in page_key no_page page_by of_page s.ptt t.ptt_once
      (λ n. ap (λ (x : Site). page_lists x n) (way.no_home n)) (page_of b) in
      let table : Tables = tables_by version site s in
      ap (λ (o : Option ℕ). place_by_entries o (entry_of table.ptt (page_of b)) b) block
      ∙ ap (λ (o : Option ℕ). place_by_entries (option_map (λ _. c.i) (entry_lists (version c.entry) c.entry.block)) o b) page
      ∙ placed-by (version c.entry) (site c.page) c.i c.j c.entry.block c.page.page b
      ∙ ap (λ (n : ℕ). placed (version c.entry) (site c.page) (record { i = c.i; j = c.j; block = n })) (sym (block-cell_of s b))

pub AreTablesOf-committed : (s : State) → AreSoundTables s → AreTablesOf s (tables0 s) penult
AreTablesOf-committed s t =
    let way : IsWay s (λ e. e.v0) (λ e. e.place) = record { new_out = λ b. refl; no_home = λ page. refl; apart = λ b l v. (t.cells b l).apart0 v } in
    record { valid = IsTables-by s (λ e. e.v0) (λ e. e.place) t way; same_place = λ b l. place-by s (λ e. e.v0) (λ e. e.place) t way b }

pub AreTablesOf-under_way : (s : State) → AreSoundTables s → AreTablesOf s (tables1 s) target
AreTablesOf-under_way s t =
    let way : IsWay s (λ e. e.v1) (λ e. e.target) =
    record { new_out = λ b. refl; no_home = λ page. refl; apart = λ b l v. (t.cells b l).apart1 v } in
    record { valid = IsTables-by s (λ e. e.v1) (λ e. e.target) t way; same_place = λ b l. place-by s (λ e. e.v1) (λ e. e.target) t way b }
