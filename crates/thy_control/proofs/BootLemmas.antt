-- What a boot lists, and the tables that the checkpoints have then.
use Rattle.std.proofs.Common.{◌≡◌, ◌≢◌, ℕ, ◌<◌, ◌≤◌, Bool, true, false, List, length, get_or, map, slice_set, refl, sym, ◌∙◌, ap, subst, inl, inr, arith, Option, Some, None, option_and_then, unwrap_or, rules}
use Rattle.std.proofs.lemmas.Bool.{cases_eq, cases_Bool}
use Rattle.std.proofs.lemmas.List.{length-set, length-map, map-set, ext_get_or}
use Rattle.std.proofs.Math.ListN.{get_or-map}
use Rattle.thy_block.specs.declared.parameters.Parameters.{Parameters}
use Rattle.thy_block.specs.Geometry.{memory_blocks}
use Rattle.thy_block.specs.Store.{page_of}
use Rattle.thy_dram.specs.Contents.{Contents}
use Rattle.thy_layout.specs.Entries.{Lists, entry_at as table_entry}
use Rattle.thy_record.specs.Tables.{IsTables}
use Rattle.thy_table.specs.Listing.{Listing, IsListing, entry_at, lists, index_of, with_entry}
use Rattle.thy_table.proofs.IndexLemmas.{lists-some}
use Rattle.thy_table.proofs.ListingLaws.{entry_at-with_same, entry_at-with_other, index_of-none, IsListing-put, index_of-put, index_of-put_other}
use Rattle.thy_table.specs.declared.block_entry.BttEntry.{BttEntry}
use Rattle.thy_table.specs.declared.block_entry.Version.TheVariants.{Out, Alt}
use Rattle.thy_table.specs.declared.page_entry.PttEntry.{PttEntry}
use Rattle.thy_table.specs.BlockEntry.{new_entry, listed_entry}
use Rattle.thy_table.specs.PageEntry.{no_page, listed_page}
use Rattle.thy_table.specs.Counts.{Tally, most, with_last}
use Rattle.thy_table.specs.declared.cell.Cell.{Cell}
use Rattle.thy_table.specs.Sound.{IsSoundCell}
use Rattle.thy_table.specs.BetweenCheckpoints.{ListedCellsAreSound}
use Rattle.thy_control.specs.Find.{entry_for, index_for}
use Rattle.thy_control.specs.Keys.{block_key, page_key}
use Rattle.thy_control.specs.State.{State, AreSoundTables, cell_of, new_state}
use Rattle.thy_control.specs.CheckpointTables.{tables0, tables1, entry_lists, page_lists}
use Rattle.thy_control.specs.Boot.{IsBooting, MayListBlock, MayListPage, HaveTables, with_listed_block, with_listed_page, with_listed_count, with_block, with_page}
use Rattle.thy_control.proofs.CountsLemmas.{AreCountsOf-last}
use Rattle.thy_control.proofs.FindLemmas.{entry_for-some, entry_for-none, at_put, entry_for-kept, entry_at-put}
use Rattle.thy_control.proofs.NewLemmas.{entry_at-empty}
use Rattle.thy_control.proofs.PageLemmas.{live-set}
use Rattle.thy_control.proofs.LiveLemmas.{used-set}

-- one entry more, of a number that was not listed: what the table has for each number
module _ {E : Type 0} (key : E → ℕ) (new : ℕ → E) (t : Listing E) (once : IsListing key t) (i : ℕ) (e : E)
    (inside : i < length t.entries) (free : entry_at t i ≡ None) (unlisted : index_of key (key e) t ≡ None) (room : key e < t.numbers) where
  entry_for-put_same : entry_for key new (key e) (with_entry i (Some e) t) ≡ e
  entry_for-put_same =
      entry_for-some key new (with_entry i (Some e) t) (key e) i e (index_of-put key t once i e inside unlisted room)
      (entry_at-with_same t i (Some e) inside)

  entry_for-put_other : (n : ℕ) → n ≢ key e → entry_for key new n (with_entry i (Some e) t) ≡ entry_for key new n t
  entry_for-put_other n other =
      entry_for-kept key new t (with_entry i (Some e) t) n
      (index_of-put_other key t once i e n inside free unlisted room other)
      (λ k x was of_n. entry_at-put t i (Some e) free k x was)

-- lists that two rules make of the same entries are one if the rules agree on each
maps_alike : {X Y : Type 0} (f g : X → Option Y) (xs : List (Option X)) → ((k : ℕ) (x : X) → get_or xs k None ≡ Some x → f x ≡ g x)
    → map (option_and_then f) xs ≡ map (option_and_then g) xs
maps_alike f g xs same =
    ext_get_or None (map (option_and_then f) xs) (map (option_and_then g) xs)
    (length-map xs (option_and_then f) ∙ sym (length-map xs (option_and_then g)))
    (λ k l. get_or-map (option_and_then f) xs k None ∙ at (get_or xs k None) k refl ∙ sym (get_or-map (option_and_then g) xs k None))
  where
    at : (o : Option _) (k : ℕ) → get_or xs k None ≡ o → option_and_then f (get_or xs k None) ≡ option_and_then g (get_or xs k None)
    at None k h = ap (option_and_then f) h ∙ sym (ap (option_and_then g) h)
    at (Some x) k h = ap (option_and_then f) h ∙ same k x h ∙ sym (ap (option_and_then g) h)

-- ---- the tables of a boot

abbrev lists0 : BttEntry → Option ℕ
lists0 e = entry_lists e.v0 e.block

abbrev lists1 : BttEntry → Option ℕ
lists1 e = entry_lists e.v1 e.block

abbrev pages0 : PttEntry → Option ℕ
pages0 e = page_lists e.place e.page

abbrev pages1 : PttEntry → Option ℕ
pages1 e = page_lists e.target e.page

pub HaveTables-boot : (s : State) → IsBooting s → HaveTables s (tables0 s)
HaveTables-boot s boot = record {
  tables0_is = refl;
  tables1_is =
      ap (λ (x : List (Option ℕ)). record (tables1 s) { btt = x })
      (maps_alike lists1 lists0 s.btt.entries (λ k e h. ap lists1 (boot.blocks k e h) ∙ sym (ap lists0 (boot.blocks k e h))))
      ∙ ap (λ (x : List (Option ℕ)). record (tables0 s) { ptt = x })
      (maps_alike pages1 pages0 s.ptt.entries (λ k e h. ap pages1 (boot.pages k e h) ∙ sym (ap pages0 (boot.pages k e h))));
}

pub IsBooting-new : (p : Parameters) (dram : Contents) → IsBooting (new_state p dram)
IsBooting-new p dram = record {
  idle = refl;
  blocks = λ i e h. let none : None ≡ Some e = sym (entry_at-empty block_key p.btt (memory_blocks p) i) ∙ h in absurd (cc);
  pages = λ j e h. let none : None ≡ Some e = sym (entry_at-empty page_key p.ptt p.pages j) ∙ h in absurd (cc);
}

-- ---- a block is listed

module _ (i b : ℕ) (s : State) (t : AreSoundTables s) (boot : IsBooting s) (may : MayListBlock i b s) where
  abbrev u : State
  u = with_listed_block i b s

  inside : i < length s.btt.entries
  inside = omega (arith, may.inside, t.btt_size)

  room : b < s.btt.numbers
  room = omega (arith, may.block, t.btt_numbers)

  pub once-block : IsListing block_key u.btt
  once-block = IsListing-put block_key s.btt t.btt_once i (listed_entry b) inside may.unlisted room

  cell-block_same : cell_of u b
      ≡ record { i = i; entry = listed_entry b; j = index_for page_key no_page (page_of b) s.ptt; page = no_page (page_of b) }
  cell-block_same =
      ap (λ (o : Option ℕ). record (cell_of u b) { i = unwrap_or o 0 })
      (index_of-put block_key s.btt t.btt_once i (listed_entry b) inside may.unlisted room)
      ∙ ap (λ (e : BttEntry). record (cell_of s b) { i = i; entry = e })
      (entry_for-put_same block_key new_entry s.btt t.btt_once i (listed_entry b) inside may.free may.unlisted room)
      ∙ ap (λ (e : PttEntry). record (cell_of s b) { i = i; entry = listed_entry b; page = e })
      (entry_for-none page_key no_page s.ptt (page_of b) may.bare)

  cell-block_other : (k : ℕ) → k ≢ b → cell_of u k ≡ cell_of s k
  cell-block_other k other =
      ap (λ (o : Option ℕ). record (cell_of u k) { i = unwrap_or o 0 })
      (index_of-put_other block_key s.btt t.btt_once i (listed_entry b) k inside may.free may.unlisted room other)
      ∙ ap (λ (e : BttEntry). record (cell_of s k) { entry = e })
      (entry_for-put_other block_key new_entry s.btt t.btt_once i (listed_entry b) inside may.free may.unlisted room k other)

  sound-block : ListedCellsAreSound → (k : ℕ) → k < memory_blocks s.p → IsSoundCell s.under_way (cell_of u k)
  sound-block law k l = elim (cases_eq k b) as (λ _. IsSoundCell s.under_way (cell_of u k)) [
    | inl e ↦ subst (λ (n : ℕ). IsSoundCell s.under_way (cell_of u n)) (sym e)
        (subst (λ (c : Cell). IsSoundCell s.under_way c) (sym cell-block_same)
        (subst (λ (w : Bool). IsSoundCell w (record { i = i; entry = listed_entry b; j = index_for page_key no_page (page_of b) s.ptt; page = no_page (page_of b) })) (sym boot.idle)
        (law i (index_for page_key no_page (page_of b) s.ptt) b (page_of b)).of_block))
    | inr o ↦ subst (λ (c : Cell). IsSoundCell s.under_way c) (sym (cell-block_other k o)) (t.cells k l)
  ]

  pub AreSoundTables-block : ListedCellsAreSound → AreSoundTables u
  AreSoundTables-block law = search (
    rules,
    length-set s.btt.entries i (Some (listed_entry b)) ∙ t.btt_size,
    once-block,
    used-set s.btt i (listed_entry b) inside (λ v0 v1. let no : Alt ≡ Out = v0 in absurd (cc))
        t.live_blocks,
    sound-block law,
  )

  pub IsBooting-block : IsBooting u
  IsBooting-block = record {
    idle = boot.idle;
    blocks = at_put s.btt i (λ (e : BttEntry). e ≡ listed_entry e.block) (listed_entry b) inside
        refl boot.blocks;
    pages = boot.pages;
  }

  pub HaveTables-block : HaveTables u (with_block i b (tables0 s))
  HaveTables-block =
      let new : tables0 u ≡ with_block i b (tables0 s) = ap (λ (x : List (Option ℕ)). record (tables0 s) { btt = x })
      (map-set (option_and_then lists0) s.btt.entries i (Some (listed_entry b))) in
      record { tables0_is = new; tables1_is = (HaveTables-boot u IsBooting-block).tables1_is ∙ new }

-- ---- a page is listed

module _ (j n : ℕ) (s : State) (t : AreSoundTables s) (boot : IsBooting s) (may : MayListPage j n s) where
  abbrev v : State
  v = with_listed_page j n s

  inside_page : j < length s.ptt.entries
  inside_page = omega (arith, may.inside, t.ptt_size)

  room_page : n < s.ptt.numbers
  room_page = omega (arith, may.page, t.ptt_numbers)

  pub once-page : IsListing page_key v.ptt
  once-page = IsListing-put page_key s.ptt t.ptt_once j (listed_page n) inside_page may.unlisted room_page

  cell-page_same : (b : ℕ) → page_of b ≡ n
      → cell_of v b ≡ record { i = index_for block_key new_entry b s.btt; entry = new_entry b; j = j; page = listed_page n }
  cell-page_same b q =
      ap (λ (k : ℕ). record (cell_of s b) { j = index_for page_key no_page k v.ptt; page = entry_for page_key no_page k v.ptt }) q
      ∙ ap (λ (o : Option ℕ). record (cell_of s b) { j = unwrap_or o 0; page = entry_for page_key no_page n v.ptt })
      (index_of-put page_key s.ptt t.ptt_once j (listed_page n) inside_page may.unlisted room_page)
      ∙ ap (λ (e : PttEntry). record (cell_of s b) { j = j; page = e })
      (entry_for-put_same page_key no_page s.ptt t.ptt_once j (listed_page n) inside_page may.free may.unlisted room_page)
      ∙ ap (λ (e : BttEntry). record { i = index_for block_key new_entry b s.btt; entry = e; j = j; page = listed_page n })
      (entry_for-none block_key new_entry s.btt b (may.bare b q))

  cell-page_other : (b : ℕ) → page_of b ≢ n → cell_of v b ≡ cell_of s b
  cell-page_other b other =
      ap (λ (o : Option ℕ). record (cell_of v b) { j = unwrap_or o 0 })
      (index_of-put_other page_key s.ptt t.ptt_once j (listed_page n) (page_of b) inside_page may.free may.unlisted room_page other)
      ∙ ap (λ (e : PttEntry). record (cell_of s b) { page = e }) (entry_for-put_other page_key no_page s.ptt t.ptt_once j
      (listed_page n) inside_page may.free may.unlisted room_page (page_of b) other)

  sound-page : ListedCellsAreSound → (b : ℕ) → b < memory_blocks s.p → IsSoundCell s.under_way (cell_of v b)
  sound-page law b l = elim (cases_eq (page_of b) n) as (λ _. IsSoundCell s.under_way (cell_of v b)) [
    | inl q ↦ subst (λ (c : Cell). IsSoundCell s.under_way c) (sym (cell-page_same b q))
        (subst (λ (w : Bool). IsSoundCell w (record { i = index_for block_key new_entry b s.btt; entry = new_entry b; j = j; page = listed_page n })) (sym boot.idle)
        (law (index_for block_key new_entry b s.btt) j b n).of_page)
    | inr o ↦ subst (λ (c : Cell). IsSoundCell s.under_way c) (sym (cell-page_other b o)) (t.cells b l)
  ]

  pub AreSoundTables-page : ListedCellsAreSound → AreSoundTables v
  AreSoundTables-page law = search (
    rules,
    length-set s.ptt.entries j (Some (listed_page n)) ∙ t.ptt_size,
    once-page,
    live-set s.ptt j (listed_page n) inside_page (λ bare. let no : true ≡ false = bare in cc)
        t.live_pages,
    sound-page law,
  )

  pub IsBooting-page : IsBooting v
  IsBooting-page = record {
    idle = boot.idle;
    blocks = boot.blocks;
    pages = at_put s.ptt j (λ (e : PttEntry). e ≡ listed_page e.page) (listed_page n) inside_page
        refl boot.pages;
  }

  pub HaveTables-page : HaveTables v (with_page j n (tables0 s))
  HaveTables-page =
      let new : tables0 v ≡ with_page j n (tables0 s) = ap (λ (x : List (Option ℕ)). record (tables0 s) { ptt = x })
      (map-set (option_and_then pages0) s.ptt.entries j (Some (listed_page n))) in
      record { tables0_is = new; tables1_is = (HaveTables-boot v IsBooting-page).tables1_is ∙ new }

-- ---- a page's count is listed

module _ (n count : ℕ) (s : State) where
  pub AreSoundTables-count : AreSoundTables s → count ≤ most → AreSoundTables (with_listed_count n count s)
  AreSoundTables-count t within =
      search (rules, AreCountsOf-last n count s.p s.counts within t.counts)

  pub IsBooting-count : IsBooting s → IsBooting (with_listed_count n count s)
  IsBooting-count boot = record { idle = boot.idle; blocks = boot.blocks; pages = boot.pages }

  pub HaveTables-count : IsBooting s → HaveTables (with_listed_count n count s) (tables0 s)
  HaveTables-count boot = record { tables0_is = refl; tables1_is = (HaveTables-boot s boot).tables1_is }

-- ---- what the tables say of a listing

-- a table whose live entries list their numbers
module _ {E : Type 0} (key : E → ℕ) (listed : E → Option ℕ) (t : Listing E)
    (all : (k : ℕ) (e : E) → entry_at t k ≡ Some e → listed e ≡ Some (key e)) where
  abbrev all_listed : List (Option ℕ)
  all_listed = map (option_and_then listed) t.entries

  lists-live : (k : ℕ) (e : E) → entry_at t k ≡ Some e → Lists all_listed k (key e)
  lists-live k e h = record { is = get_or-map (option_and_then listed) t.entries k None ∙ ap (option_and_then listed) h ∙ all k e h }

  free-listed : (i : ℕ) → table_entry all_listed i ≡ None → entry_at t i ≡ None
  free-listed i none = by_entry (entry_at t i) refl where
    by_entry : (o : Option E) → entry_at t i ≡ o → entry_at t i ≡ None
    by_entry None h = h
    by_entry (Some e) h = let both : Some (key e) ≡ None = sym (lists-live i e h).is ∙ none in absurd (cc)

  unlisted-by : (n : ℕ) → ((k : ℕ) → Lists all_listed k n → ⊥) → index_of key n t ≡ None
  unlisted-by n none = index_of-none key t n (λ k. elim (cases_Bool (lists key n (entry_at t k))) as (λ _. lists key n (entry_at t k) ≡ false) [
    | inl h ↦
        let f = lists-some key n (entry_at t k) h in
        absurd (none k (subst (λ (m : ℕ). Lists all_listed k m) f.2 (lists-live k f.0 f.1)))
    | inr h ↦ h
  ])

-- entry i of a list lists a number then, and every other entry what it did
lists-here : (xs : List (Option ℕ)) (i n : ℕ) → i < length xs → Lists (slice_set xs i (Some n)) i n
lists-here xs i n l = record { is = entry_at-with_same (record { entries = xs; numbers = 0 }) i (Some n) l }

lists-there : (xs : List (Option ℕ)) (i k n m : ℕ) → table_entry xs i ≡ None → Lists xs k m → Lists (slice_set xs i (Some n)) k m
lists-there xs i k n m free l =
    let apart : k ≢ i = λ e. (let both : Some m ≡ None = sym l.is ∙ ap (table_entry xs) e ∙ free in cc) in
    record { is = entry_at-with_other (record { entries = xs; numbers = 0 }) i k (Some n) apart ∙ l.is }

not_free : (xs : List (Option ℕ)) (i k m : ℕ) → table_entry xs i ≡ None → Lists xs k m → k ≡ i → ⊥
not_free xs i k m free l e = let both : Some m ≡ None = sym l.is ∙ ap (table_entry xs) e ∙ free in cc

block_live : (s : State) → IsBooting s → (k : ℕ) (e : BttEntry) → entry_at s.btt k ≡ Some e → lists0 e ≡ Some (block_key e)
block_live s boot k e h = ap lists0 (boot.blocks k e h)

page_live : (s : State) → IsBooting s → (k : ℕ) (e : PttEntry) → entry_at s.ptt k ≡ Some e → pages0 e ≡ Some (page_key e)
page_live s boot k e h = ap pages0 (boot.pages k e h)

pub MayListBlock-by : (i b : ℕ) (s : State) → AreSoundTables s → IsBooting s → i < s.p.btt → table_entry (tables0 s).btt i ≡ None
    → IsTables s.p (with_block i b (tables0 s)) → MayListBlock i b s
MayListBlock-by i b s t boot inside free tables =
    let xs : List (Option ℕ) = (tables0 s).btt in
    let here : Lists (slice_set xs i (Some b)) i b =
    lists-here xs i b (omega (arith, inside, t.btt_size, length-map s.btt.entries (option_and_then lists0))) in
    record {
      inside = inside;
      free = free-listed block_key lists0 s.btt (block_live s boot) i free;
      block = tables.blocks i b here;
      unlisted = unlisted-by block_key lists0 s.btt (block_live s boot) b
          (λ k l. not_free xs i k b free l (tables.blocks_once k i b (lists-there xs i k b b free l) here));
      bare = unlisted-by page_key pages0 s.ptt (page_live s boot) (page_of b) (λ k l. tables.apart i k b here l);
    }

pub MayListPage-by : (j n : ℕ) (s : State) → AreSoundTables s → IsBooting s → j < s.p.ptt → table_entry (tables0 s).ptt j ≡ None
    → IsTables s.p (with_page j n (tables0 s)) → MayListPage j n s
MayListPage-by j n s t boot inside free tables =
    let xs : List (Option ℕ) = (tables0 s).ptt in
    let here : Lists (slice_set xs j (Some n)) j n =
    lists-here xs j n (omega (arith, inside, t.ptt_size, length-map s.ptt.entries (option_and_then pages0))) in
    record {
      inside = inside;
      free = free-listed page_key pages0 s.ptt (page_live s boot) j free;
      page = tables.pages j n here;
      unlisted = unlisted-by page_key pages0 s.ptt (page_live s boot) n
          (λ k l. not_free xs j k n free l (tables.pages_once k j n (lists-there xs j k n n free l) here));
      bare = λ b q. unlisted-by block_key lists0 s.btt (block_live s boot) b
          (λ k l. tables.apart k j b l (subst (λ (m : ℕ). Lists (slice_set xs j (Some n)) j m) (sym q) here));
    }

-- ---- what the code puts

module _ {s w : State} (view : w ≡ s) where
  pub count_put_is : (n count : ℕ) {c : Tally} → c ≡ with_last n count w.counts
      → record w { counts = c } ≡ with_listed_count n count s
  count_put_is n count c_is = cc

  pub block_put_is : (i b : ℕ) {e : BttEntry} {t : Listing BttEntry} → e ≡ listed_entry b
      → t ≡ with_entry i (Some e) w.btt
      → record w { btt = t } ≡ with_listed_block i b s
  block_put_is i b e_is t_is = cc

  pub page_put_is : (j n : ℕ) {e : PttEntry} {t : Listing PttEntry} → e ≡ listed_page n
      → t ≡ with_entry j (Some e) w.ptt
      → record w { ptt = t } ≡ with_listed_page j n s
  page_put_is j n e_is t_is = cc
