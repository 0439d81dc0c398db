-- A seal leaves the tables sound, moves the versions of every block, and leaves no work.
use Rattle.std.proofs.Common.{◌≡◌, ℕ, ◌<◌, Bool, true, false, length, refl, sym, ◌∙◌, ap, subst, inl, inr, arith, Option, Some, unwrap_or, ◌⊎◌, ◌||◌, ◌*◌, if◌then◌else◌, List, map, None, option_and_then, ◌≤◌, [], ◌∷◌}
use Rattle.std.proofs.lemmas.List.{length-map, ext_get_or}
use Rattle.thy_block.specs.declared.block.Block.{Block}
use Rattle.thy_table.specs.declared.place.Place.{Place}
use Rattle.thy_block.specs.Device.{Device}
use Rattle.thy_block.specs.Geometry.{memory_blocks}
use Rattle.thy_block.specs.Store.{page_of}
use Rattle.thy_table.specs.Listing.{Listing, entry_at, lists, mapped, IsListing, index_of, free_count}
use Rattle.thy_table.proofs.IndexLemmas.{lists-key, free_one}
use Rattle.thy_table.proofs.ListingLaws.{IsListing-mapped, entry_at-mapped, free_count-mapped}
use Rattle.thy_table.specs.declared.block_entry.BttEntry.{BttEntry}
use Rattle.thy_table.specs.declared.page_entry.PttEntry.{PttEntry}
use Rattle.thy_table.specs.BlockEntry.{new_entry}
use Rattle.thy_table.specs.PageEntry.{no_page, promoted_page, is_framed}
use Rattle.thy_table.specs.Counts.{Tally, is_low, reset}
use Rattle.thy_table.specs.declared.cell.Cell.{Cell}
use Rattle.thy_table.specs.Cells.{penult, work}
use Rattle.thy_table.specs.Sound.{IsSoundCell, Holds}
use Rattle.thy_table.specs.Checkpoint.{sealed_by, with_listed, Moves, ListsPage, SealKeepsSound, SealMoves, SealTakesWork, ListingKeeps, sealed, sealed_entry, sealed_page, page_sealed_by, kept_index, committed_by, committed_entry, page_committed_by, committed_page, sealed_frame}
use Rattle.thy_control.specs.Keys.{block_key, page_key}
use Rattle.thy_control.specs.State.{State, IsUsed, AreSoundTables, cell_of, reads}
use Rattle.thy_control.specs.Rules.{IsWholeState}
use Rattle.thy_control.specs.Stays.{HoldAll}
use Rattle.thy_control.specs.Seal.{is_few, block_is_framed, sealed_in, sealed_as_counted, dense_below, sealed_ptt, sealed_state, IsBareState, OrListed, sealed_cell, Seals}
use Rattle.thy_control.proofs.CountsLemmas.{AreCountsOf-reset}
use Rattle.thy_control.proofs.FindLemmas.{entry_for-some, entry_for-none}
use Rattle.thy_control.proofs.CommitLemmas.{same_cell, live-mapped, or_none, index_for-mapped, entry_for-mapped}
use Rattle.thy_control.proofs.ListPageLemmas.{Lists, lists_all, dense-below}
use Rattle.thy_control.proofs.LiveLemmas.{used-mapped, used-sealed}
use Rattle.std.proofs.lemmas.Bool.{cases_Bool}
use Rattle.thy_table.specs.declared.block_entry.Version.{Version}
use Rattle.thy_table.specs.declared.block_entry.Version.TheVariants.{Alt, Out}
use Rattle.thy_table.specs.declared.block_entry.Working.{Working}
use Rattle.thy_table.specs.declared.block_entry.Working.TheVariants.{NoWork}
use Rattle.thy_table.specs.declared.page_entry.Site.{Site}
use Rattle.thy_table.specs.declared.page_entry.Site.TheVariants.{AtHome}
use Rattle.thy_control.proofs.StateLemmas.{block-cell_of, page-cell_of}
use Rattle.std.proofs.Math.ListN.{get_or-map}
use Rattle.thy_control.specs.CheckpointTables.{entry_lists, page_lists, tables0, tables1}
use Rattle.thy_control.specs.Commit.{committed_state, CommitsTables}
use Rattle.std.specs.List.{sum_by}
use Rattle.std.proofs.lemmas.List.Sums.{sum_by-cons}
use Rattle.thy_control.specs.Frees.{HasNoWork}

-- a block's entry that a seal leaves is of the same block
sealed_by-block : (framed : Bool) (w : Working) (few : Bool) (v : Version) (e : BttEntry)
    → block_key (sealed_by framed w few v e) ≡ block_key e
sealed_by-block false NoWork true Alt e = refl
sealed_by-block framed w few v e = refl

pub sealed_in-block : (few : Bool) (t : Listing PttEntry) (e f : BttEntry) → sealed_in few t e ≡ Some f → block_key f ≡ block_key e
sealed_in-block few t e f h =
    let framed : Bool = block_is_framed t e.block in
    let same : sealed_entry framed few e ≡ f = cc in
    sym (ap block_key same) ∙ sealed_by-block framed e.work few e.v1 e

-- a page's entry that a seal leaves is of the same page, and as much of its frame is filled
record Left (e f : PttEntry) : Type 0 where
  page : page_key f ≡ page_key e
  framed : is_framed e ≡ true → is_framed f ≡ true

frame_left : (low written : Bool) (site : Site) (e f : PttEntry) → page_sealed_by low written site e ≡ Some f → Left e f
frame_left true false AtHome e f h = cc
frame_left low written site e f h = record { page = grind arith; framed = grind arith }

-- a page's entry after a seal is one that a frame left, or is as before
page_left : (low framed : Bool) (e f : PttEntry) → is_framed e ≡ framed → sealed_page low e ≡ Some f → Left e f ⊎ (f ≡ e)
page_left low true e f b h = inl (frame_left low (e.dirty || e.fresh) e.place e f (grind (arith, h, b)))
page_left low false e f b h = inr (grind (arith, h, b))

pub sealed_as_counted-page : (c : Tally) (e f : PttEntry) → sealed_as_counted c e ≡ Some f → page_key f ≡ page_key e
sealed_as_counted-page c e f h = elim (page_left (is_low c e.page) (is_framed e) e f refl h) as (λ _. page_key f ≡ page_key e) [
  | inl l ↦ l.page
  | inr s ↦ ap page_key s
]

pub live_left : (c : Tally) (e f : PttEntry) → sealed_as_counted c e ≡ Some f → (is_framed e ≡ false → e.fresh ≡ true) → is_framed f ≡ false
    → f.fresh ≡ true
live_left c e f h live bare = elim (page_left (is_low c e.page) (is_framed e) e f refl h) as (λ _. f.fresh ≡ true) [
  | inl l ↦ elim (cases_Bool (is_framed e)) as (λ _. f.fresh ≡ true) [
    | inl framed ↦ let now : is_framed f ≡ true = l.framed framed in cc
    | inr unframed ↦ grind (arith, frame_fresh c e f h unframed, live unframed)
  ]
  | inr s ↦ ap (λ (x : PttEntry). x.fresh) s ∙ live (sym (ap is_framed s) ∙ bare)
] where
  frame_fresh : (c : Tally) (e f : PttEntry) → sealed_as_counted c e ≡ Some f → is_framed e ≡ false → f.fresh ≡ e.fresh
  frame_fresh c e f h b = grind (arith, h, b)

-- the default for a block or a page without an entry stays as it is
block_idle : (few framed : Bool) (b : ℕ) → sealed_entry framed few (new_entry b) ≡ new_entry b
block_idle few framed b = grind arith

-- the state before pages are listed
abbrev pub mapped_state : State → State
mapped_state s = record s {
  btt = mapped (sealed_in (is_few s) s.ptt) s.btt;
  ptt = mapped (sealed_as_counted s.counts) s.ptt;
}

module _ (s : State) (blocks : IsListing block_key s.btt) (pages : IsListing page_key s.ptt) where
  pub cell-mapped : (b : ℕ) → cell_of (mapped_state s) b ≡ sealed (is_few s) (is_low s.counts (page_of b)) (cell_of s b)
  cell-mapped b =
      let few : Bool = is_few s in
      let rule : BttEntry → Option BttEntry = sealed_in few s.ptt in
      let c : Cell = cell_of s b in
      let low : PttEntry → Option PttEntry = sealed_as_counted s.counts in
      let counted : low c.page ≡ sealed_page (is_low s.counts (page_of b)) c.page
      = ap (λ (n : ℕ). sealed_page (is_low s.counts n) c.page) (page-cell_of s b) in
      same_cell (cell_of (mapped_state s) b) (sealed few (is_low s.counts (page_of b)) c)
      (index_for-mapped block_key new_entry rule (sealed_in-block few s.ptt) s.btt blocks b)
      (entry_for-mapped block_key new_entry rule (sealed_in-block few s.ptt) s.btt blocks b (block_idle few (block_is_framed s.ptt b) b)
      ∙ ap (λ (n : ℕ). sealed_entry (block_is_framed s.ptt n) few c.entry) (block-cell_of s b))
      (index_for-mapped page_key no_page low (sealed_as_counted-page s.counts) s.ptt pages (page_of b) ∙ ap (kept_index c.j) counted)
      (entry_for-mapped page_key no_page low (sealed_as_counted-page s.counts) s.ptt pages (page_of b) refl
      ∙ ap (λ (o : Option PttEntry). unwrap_or o (no_page (page_of b))) counted
      ∙ or_none c.page.page (page_of b) (sealed_page (is_low s.counts (page_of b)) c.page) (page-cell_of s b))

-- ---- the tables, and the versions

pub lists_sealed : (s : State) → AreSoundTables s → Lists (mapped_state s).ptt (sealed_ptt s.counts s.ptt)
lists_sealed s t = lists_all (dense_below s.counts (length s.counts.counts)) (mapped_state s).ptt
    (λ k d l. let inside = dense-below s.counts (length s.counts.counts) k d l in omega (arith, inside, t.counts.size, t.ptt_numbers))

module _ (s : State) (t : AreSoundTables s) where
  or_listed : (b : ℕ) → OrListed (page_of b) (cell_of (mapped_state s) b) (cell_of (sealed_state s) b)
  unfolding sealed_state
  or_listed b = elim ((lists_sealed s t).each (page_of b)) as (λ _. OrListed (page_of b) (cell_of (mapped_state s) b) (cell_of (sealed_state s) b)) [
    | inl x ↦ inl (same_cell (cell_of (sealed_state s) b) (cell_of (mapped_state s) b) refl refl (ap (λ o. unwrap_or o 0) x.place) x.entry)
    | inr x ↦
        let none : (cell_of (mapped_state s) b).page ≡ no_page (page_of b) =
        entry_for-none page_key no_page (mapped_state s).ptt (page_of b) x.unlisted in
        inr (
          none,
          (
            x.at,
            same_cell (cell_of (sealed_state s) b) (with_listed x.at (cell_of (mapped_state s) b)) refl refl (ap (λ o. unwrap_or o 0) x.place)
                (x.entry ∙ ap (λ (e : PttEntry). promoted_page e.page) (sym none)),
          ),
        )
  ]

  pub cell-sealed : (b : ℕ) → OrListed (page_of b) (sealed_cell s b) (cell_of (sealed_state s) b)
  cell-sealed b = subst (λ (c : Cell). OrListed (page_of b) c (cell_of (sealed_state s) b)) (cell-mapped s t.btt_once t.ptt_once b) (or_listed b)

-- what a seal asks for, and what is known of blocks
module _ (s : State) (t : AreSoundTables s) (idle : s.under_way ≡ false) (whole : IsWholeState s) (bare : IsBareState s) where
  sound : (b : ℕ) → b < memory_blocks s.p → IsSoundCell false (cell_of s b)
  sound b l = subst (λ (u : Bool). IsSoundCell u (cell_of s b)) idle (t.cells b l)

  listed : SealTakesWork → ListingKeeps → (b j : ℕ) → b < memory_blocks s.p → IsSoundCell true (sealed_cell s b)
      → (sealed_cell s b).page ≡ no_page (page_of b)
      → ListsPage true (sealed_cell s b) (with_listed j (sealed_cell s b))
  listed takes keeps b j l now none =
      keeps true j (page_of b) (sealed_cell s b) now none (takes (is_few s) (is_low s.counts (page_of b)) (cell_of s b) (sound b l) (bare.bare b l))

  sound_sealed : SealKeepsSound → SealTakesWork → ListingKeeps → (b : ℕ) → b < memory_blocks s.p
      → IsSoundCell true (cell_of (sealed_state s) b)
  sound_sealed law takes keeps b l =
      let now : IsSoundCell true (sealed_cell s b) =
      law (is_few s) (is_low s.counts (page_of b)) (cell_of s b) (sound b l) (whole.whole b l) (bare.bare b l) in
      elim (cell-sealed s t b) as (λ _. IsSoundCell true (cell_of (sealed_state s) b)) [
        | inl e ↦ subst (IsSoundCell true) (sym e) now
        | inr x ↦ subst (IsSoundCell true) (sym x.1.1) (listed takes keeps b x.1.0 l now x.0).sound
      ]

  -- the entry of a block of memory, in which both checkpoints are one
  used_after : (i : ℕ) (e f : BttEntry) → entry_at s.btt i ≡ Some e → sealed_in (is_few s) s.ptt e ≡ Some f → IsUsed f
  used_after i e f was h =
      let lists_it : lists block_key e.block (entry_at s.btt i) ≡ true = lists-key block_key e.block (entry_at s.btt i) e was refl in
      let inside : e.block < memory_blocks s.p = omega (arith, t.btt_once.inside i e.block lists_it, t.btt_numbers) in
      let is : (cell_of s e.block).entry ≡ e = entry_for-some block_key new_entry s.btt e.block i e (t.btt_once.found i e.block lists_it) was in
      let one : e.v0 ≡ e.v1 = subst (λ (x : BttEntry). x.v0 ≡ x.v1) is ((sound e.block inside).one refl) in
      let same : sealed_by (block_is_framed s.ptt e.block) e.work (is_few s) e.v1 e ≡ f = cc in
      subst IsUsed same (used-sealed (block_is_framed s.ptt e.block) (is_few s) e.work e.v1 e refl refl one (t.live_blocks i e was))

  pub AreSoundTables-sealed : SealKeepsSound → SealTakesWork → ListingKeeps → AreSoundTables (sealed_state s)
  unfolding sealed_state
  AreSoundTables-sealed law takes keeps =
      let lists = lists_sealed s t in
      let rule : PttEntry → Option PttEntry = sealed_as_counted s.counts in
      record {
        range = t.range;
        btt_size = length-map s.btt.entries (option_and_then (sealed_in (is_few s) s.ptt)) ∙ t.btt_size;
        btt_numbers = t.btt_numbers;
        btt_once = IsListing-mapped block_key s.btt t.btt_once (sealed_in (is_few s) s.ptt) (sealed_in-block (is_few s) s.ptt);
        ptt_size = lists.size ∙ length-map s.ptt.entries (option_and_then rule) ∙ t.ptt_size;
        ptt_numbers = lists.numbers ∙ t.ptt_numbers;
        ptt_once = lists.once (IsListing-mapped page_key s.ptt t.ptt_once rule (sealed_as_counted-page s.counts));
        live_blocks = used-mapped (sealed_in (is_few s) s.ptt) s.btt used_after;
        live_pages = lists.live (live-mapped rule (live_left s.counts) s.ptt t.live_pages);
        counts = AreCountsOf-reset s.p s.counts t.counts;
        dram_size = t.dram_size;
        cells = sound_sealed law takes keeps;
      }

  moves_sealed : SealKeepsSound → SealTakesWork → ListingKeeps → SealMoves → (reads : Place → Block) (b : ℕ) → b < memory_blocks s.p
      → Holds reads (cell_of s b)
      → Moves reads (cell_of s b) (cell_of (sealed_state s) b) (reads (penult (cell_of s b))) (reads (work (cell_of s b)))
  moves_sealed law takes keeps moves reads b l holds =
      let few : Bool = is_few s in
      let low : Bool = is_low s.counts (page_of b) in
      let c : Cell = cell_of s b in
      let now : IsSoundCell true (sealed_cell s b) = law few low c (sound b l) (whole.whole b l) (bare.bare b l) in
      let first : Moves reads c (sealed_cell s b) (reads (penult c)) (reads (work c)) =
      moves few low c reads (sound b l) (whole.whole b l) (bare.bare b l) holds in
      elim (cell-sealed s t b) as (λ _. Moves reads c (cell_of (sealed_state s) b) (reads (penult c)) (reads (work c))) [
        | inl e ↦ subst (λ (d : Cell). Moves reads c d (reads (penult c)) (reads (work c))) (sym e) first
        | inr x ↦
            let next = (listed takes keeps b x.1.0 l now x.0).moves reads in
            subst (λ (d : Cell). Moves reads c d (reads (penult c)) (reads (work c))) (sym x.1.1)
            (record {
              penult_is = next.penult_is ∙ first.penult_is;
              last_is = next.last_is ∙ first.last_is;
              work_same = next.work_same ∙ first.work_same;
              holds = next.holds;
            })
      ]

  pub Seals-sealed : SealKeepsSound → SealTakesWork → ListingKeeps → SealMoves → (n : Device) → HoldAll s n → Seals s (sealed_state s) n
  unfolding sealed_state
  Seals-sealed law takes keeps moves n holds =
      let each : (b : ℕ) → b < memory_blocks s.p
      → Moves (reads s n) (cell_of s b) (cell_of (sealed_state s) b) (reads s n (penult (cell_of s b))) (reads s n (work (cell_of s b)))
      = λ b l. moves_sealed law takes keeps moves (reads s n) b l (holds b l) in
      record {
        penult_same = λ b l. (each b l).penult_is;
        last_is = λ b l. (each b l).last_is;
        work_same = λ b l. (each b l).work_same;
        holds = λ b l. (each b l).holds;
      }

-- a state whose tables were sealed
pub sealed_parts : {s v : State} {few : Bool} {btt : Listing BttEntry} {ptt : Listing PttEntry}
    {counts : Tally} → v ≡ s → few ≡ is_few s
    → btt ≡ mapped (sealed_in few v.ptt) v.btt → ptt ≡ sealed_ptt v.counts v.ptt → counts ≡ reset v.counts
    → record v { btt = btt; ptt = ptt; counts = counts; under_way = true } ≡ sealed_state s
unfolding sealed_state
sealed_parts e of_few of_btt of_ptt of_counts = cc

-- ---- the tables of both checkpoints after a commit and after a seal

-- what is listed after a rule, if what is listed of each live entry is known
module _ {E : Type 0} (rule : E → Option E) (f h : E → Option ℕ) (t : Listing E)
    (each : (i : ℕ) (e : E) → entry_at t i ≡ Some e → option_and_then f (rule e) ≡ h e) where
  by_entry : (i : ℕ) (o : Option E) → entry_at t i ≡ o → option_and_then f (option_and_then rule o) ≡ option_and_then h o
  by_entry i None was = refl
  by_entry i (Some e) was = each i e was

  pub listed-mapped : map (option_and_then f) (mapped rule t).entries ≡ map (option_and_then h) t.entries
  listed-mapped = ext_get_or None (map (option_and_then f) (mapped rule t).entries) (map (option_and_then h) t.entries)
      (length-map (mapped rule t).entries (option_and_then f) ∙ length-map t.entries (option_and_then rule)
      ∙ sym (length-map t.entries (option_and_then h)))
      (λ i l.
      get_or-map (option_and_then f) (mapped rule t).entries i None
      ∙ ap (option_and_then f) (entry_at-mapped rule t i)
      ∙ by_entry i (entry_at t i) refl
      ∙ sym (get_or-map (option_and_then h) t.entries i None))

-- what an entry of the block table lists after a commit
block_committed : (v : Version) (w : Working) (e : BttEntry)
    → option_and_then (λ (x : BttEntry). entry_lists x.v0 x.block) (committed_by v w e) ≡ entry_lists v e.block
block_committed Out NoWork e = refl
block_committed v w e = refl

block_same : (v : Version) (w : Working) (e : BttEntry) → v ≡ e.v1
    → option_and_then (λ (x : BttEntry). entry_lists x.v1 x.block) (committed_by v w e) ≡ entry_lists e.v1 e.block
block_same Out NoWork e is = ap (λ (v : Version). entry_lists v e.block) is
block_same v w e is = refl

-- what an entry of the page table lists after a commit, if a page that leaves goes home
page_committed : (leaving : Bool) (e : PttEntry) → (leaving ≡ true → e.target ≡ AtHome)
    → option_and_then (λ (x : PttEntry). page_lists x.place x.page) (page_committed_by leaving e) ≡ page_lists e.target e.page
page_committed true e home = sym (ap (λ (x : Site). page_lists x e.page) (home refl))
page_committed false e home = refl

page_same : (leaving : Bool) (e : PttEntry) → (leaving ≡ true → e.target ≡ AtHome)
    → option_and_then (λ (x : PttEntry). page_lists x.target x.page) (page_committed_by leaving e) ≡ page_lists e.target e.page
page_same true e home = sym (ap (λ (x : Site). page_lists x e.page) (home refl))
page_same false e home = refl

-- a live page that leaves goes home
leaves_home : (s : State) → AreSoundTables s → (j : ℕ) (e : PttEntry) → entry_at s.ptt j ≡ Some e → e.leaving ≡ true → e.target ≡ AtHome
leaves_home s t j e was leaves =
    let listed = lists-key page_key e.page (entry_at s.ptt j) e was refl in
    let inside = t.ptt_once.inside j e.page listed in
    let b : ℕ = 64 * e.page in
    let of_page : page_of b ≡ e.page = omega arith in
    let found : (cell_of s b).page ≡ e = entry_for-some page_key no_page s.ptt (page_of b) j e
    (ap (λ (n : ℕ). index_of page_key n s.ptt) of_page ∙ t.ptt_once.found j e.page listed) was in
    let sound = t.cells b (omega (arith, inside, t.ptt_numbers)) in
    ap (λ (x : PttEntry). x.target) (sym found) ∙ sound.of_page.leaving_home (ap (λ (x : PttEntry). x.leaving) found ∙ leaves)

pub CommitsTables-committed : (s : State) → AreSoundTables s → CommitsTables s (committed_state s)
unfolding committed_state
CommitsTables-committed s t = record {
  tables0_next =
      ap (λ (xs : List (Option ℕ)). record (tables0 (committed_state s)) { btt = xs })
      (listed-mapped committed_entry (λ e. entry_lists e.v0 e.block) (λ e. entry_lists e.v1 e.block) s.btt
      (λ i e was. block_committed e.v1 e.work e))
      ∙ ap (λ (xs : List (Option ℕ)). record (tables1 s) { ptt = xs })
      (listed-mapped committed_page (λ e. page_lists e.place e.page) (λ e. page_lists e.target e.page) s.ptt
      (λ j e was. page_committed e.leaving e (leaves_home s t j e was)));
  tables1_same =
      ap (λ (xs : List (Option ℕ)). record (tables1 (committed_state s)) { btt = xs })
      (listed-mapped committed_entry (λ e. entry_lists e.v1 e.block) (λ e. entry_lists e.v1 e.block) s.btt
      (λ i e was. block_same e.v1 e.work e refl))
      ∙ ap (λ (xs : List (Option ℕ)). record (tables1 s) { ptt = xs })
      (listed-mapped committed_page (λ e. page_lists e.target e.page) (λ e. page_lists e.target e.page) s.ptt
      (λ j e was. page_same e.leaving e (leaves_home s t j e was)));
}

-- a seal moves nothing that the committed checkpoint lists
block_sealed : (framed : Bool) (w : Working) (few : Bool) (v : Version) (e : BttEntry)
    → entry_lists (sealed_by framed w few v e).v0 (sealed_by framed w few v e).block ≡ entry_lists e.v0 e.block
block_sealed false NoWork true Alt e = refl
block_sealed framed w few v e = refl

abbrev page0 : PttEntry → Option ℕ
page0 e = page_lists e.place e.page

frame_sealed : (low written : Bool) (site : Site) (e : PttEntry) → site ≡ e.place
    → option_and_then page0 (page_sealed_by low written site e) ≡ page0 e
frame_sealed low written site e is = grind (arith, is)

page_sealed : (framed : Bool) (o : Option PttEntry) (e : PttEntry) → option_and_then page0 o ≡ page0 e
    → option_and_then page0 (if framed then o else Some e) ≡ page0 e
page_sealed true o e h = h
page_sealed false o e h = refl

pub tables0-sealed : (s : State) → AreSoundTables s → tables0 (sealed_state s) ≡ tables0 s
unfolding sealed_state
tables0-sealed s t =
    ap (λ (xs : List (Option ℕ)). record (tables0 (sealed_state s)) { btt = xs })
    (listed-mapped (sealed_in (is_few s) s.ptt) (λ e. entry_lists e.v0 e.block) (λ e. entry_lists e.v0 e.block) s.btt
    (λ i e was. block_sealed (block_is_framed s.ptt e.block) e.work (is_few s) e.v1 e))
    ∙ ap (λ (xs : List (Option ℕ)). record (tables0 s) { ptt = xs })
    ((lists_sealed s t).tables
    ∙ listed-mapped (sealed_as_counted s.counts) page0 page0 s.ptt
    (λ j e was. page_sealed (is_framed e) (sealed_frame (is_low s.counts e.page) e) e (frame_sealed (is_low s.counts e.page) (e.dirty || e.fresh) e.place e refl)))

-- ---- a seal leaves no work, a commit no new one; neither takes an entry of the block table

pub HasNoWork-sealed : SealTakesWork → (s : State) → AreSoundTables s → s.under_way ≡ false → IsBareState s → HasNoWork (sealed_state s)
unfolding sealed_state
HasNoWork-sealed takes s t idle bare = record {
  no_work = λ i e was. by_entry i e (entry_at s.btt i) refl (sym (entry_at-mapped (sealed_in (is_few s) s.ptt) s.btt i) ∙ was);
} where
  by_entry : (i : ℕ) (f : BttEntry) (o : Option BttEntry) → entry_at s.btt i ≡ o → option_and_then (sealed_in (is_few s) s.ptt) o ≡ Some f
      → f.work ≡ NoWork
  by_entry i f None was h = cc
  by_entry i f (Some e) was h =
      let listed = lists-key block_key e.block (entry_at s.btt i) e was refl in
      let inside : e.block < memory_blocks s.p = omega (arith, t.btt_once.inside i e.block listed, t.btt_numbers) in
      let found : (cell_of s e.block).entry ≡ e = entry_for-some block_key new_entry s.btt e.block i e (t.btt_once.found i e.block listed) was in
      let framed : Bool = block_is_framed s.ptt e.block in
      let same : sealed_entry framed (is_few s) e ≡ f = cc in
      ap (λ (x : BttEntry). x.work) (sym same)
      ∙ ap (λ (x : BttEntry). (sealed_entry framed (is_few s) x).work) (sym found)
      ∙ takes (is_few s) (is_low s.counts (page_of e.block)) (cell_of s e.block)
      (subst (λ (u : Bool). IsSoundCell u (cell_of s e.block)) idle (t.cells e.block inside)) (bare.bare e.block inside)

work_kept : (e f : BttEntry) (v : Version) → Some (record e { v0 = v }) ≡ Some f → f.work ≡ e.work
work_kept e f v h = let same : record e { v0 = v } ≡ f = cc in sym (ap (λ (x : BttEntry). x.work) same)

committed-work : (v : Version) (w : Working) (e f : BttEntry) → committed_by v w e ≡ Some f → f.work ≡ e.work
committed-work Out NoWork e f h = cc
committed-work v w e f h = work_kept e f v h

pub HasNoWork-committed : (s : State) → HasNoWork s → HasNoWork (committed_state s)
unfolding committed_state
HasNoWork-committed s none = record {
  no_work = λ i e was. by_entry i e (entry_at s.btt i) refl (sym (entry_at-mapped committed_entry s.btt i) ∙ was);
} where
  by_entry : (i : ℕ) (f : BttEntry) (o : Option BttEntry) → entry_at s.btt i ≡ o → option_and_then committed_entry o ≡ Some f
      → f.work ≡ NoWork
  by_entry i f None was h = cc
  by_entry i f (Some e) was h = committed-work e.v1 e.work e f h ∙ none.no_work i e was

-- a rule that clears no entry leaves the number of free entries
free-kept : {E : Type 0} (rule : E → E) (es : List (Option E))
    → sum_by free_one (map (option_and_then (λ e. Some (rule e))) es) ≡ sum_by free_one es
free-kept rule [] = refl
free-kept rule (None ∷ es) =
    omega (arith, free-kept rule es, sum_by-cons free_one None es, sum_by-cons free_one None (map (option_and_then (λ e. Some (rule e))) es))
free-kept rule (Some e ∷ es) =
    omega (arith, free-kept rule es, sum_by-cons free_one (Some e) es, sum_by-cons free_one (Some (rule e)) (map (option_and_then (λ e. Some (rule e))) es))

pub free-sealed : (s : State) → free_count (sealed_state s).btt ≡ free_count s.btt
unfolding sealed_state
free-sealed s = free-kept (λ (e : BttEntry). sealed_entry (block_is_framed s.ptt e.block) (is_few s) e) s.btt.entries

pub free-committed : (s : State) → free_count s.btt ≤ free_count (committed_state s).btt
unfolding committed_state
free-committed s = free_count-mapped committed_entry s.btt
