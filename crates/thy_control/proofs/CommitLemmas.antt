-- A commit: every block has the cell that a commit makes of its own, so the tables are sound and the versions move.
use Rattle.std.proofs.Common.{◌≡◌, ℕ, ◌<◌, Bool, true, false, refl, sym, ◌∙◌, ap, subst, Option, Some, None, unwrap_or, option_and_then, arith}
use Rattle.std.proofs.lemmas.List.{length-map}
use Rattle.thy_block.specs.Device.{Device}
use Rattle.thy_block.specs.Geometry.{memory_blocks}
use Rattle.thy_block.specs.Store.{page_of}
use Rattle.thy_table.specs.Listing.{Listing, IsListing, entry_at, mapped, index_of}
use Rattle.thy_table.proofs.ListingLaws.{entry_at-mapped, IsListing-mapped, index_of-mapped, index_of-mapped_cleared, index_of-mapped_none}
use Rattle.thy_table.specs.declared.block_entry.BttEntry.{BttEntry}
use Rattle.thy_table.specs.declared.page_entry.PttEntry.{PttEntry}
use Rattle.thy_table.specs.BlockEntry.{new_entry}
use Rattle.thy_table.specs.PageEntry.{no_page, is_framed}
use Rattle.thy_table.specs.declared.cell.Cell.{Cell}
use Rattle.thy_table.specs.Cells.{penult, last, work}
use Rattle.thy_table.specs.Sound.{IsSoundCell, Holds}
use Rattle.thy_table.specs.Checkpoint.{committed, committed_entry, committed_page, entry_or_new, page_or_none, page_committed_by, Moves, CommitKeepsSound, CommitMoves, kept_index}
use Rattle.thy_control.specs.Keys.{block_key, page_key}
use Rattle.thy_control.specs.State.{State, AreSoundTables, cell_of, reads}
use Rattle.thy_control.specs.Stays.{AreCopied, HoldAll}
use Rattle.thy_control.specs.Commit.{committed_state, Commits}
use Rattle.thy_control.specs.CommitKeys.{committed_entry-block, committed_page-page}
use Rattle.thy_control.proofs.StateLemmas.{block-cell_of, page-cell_of}
use Rattle.thy_control.proofs.LiveLemmas.{used-mapped, used-committed}
use Rattle.thy_control.specs.Find.{entry_for, index_for}
use Rattle.thy_control.proofs.FindLemmas.{found_entry, entry_for-some, entry_for-none}

kept_zero : {E : Type 0} (o : Option E) → kept_index 0 o ≡ 0
kept_zero None = refl
kept_zero (Some e) = refl

module _ {E : Type 0} (key : E → ℕ) (new : ℕ → E) (rule : E → Option E) (keeps : (e f : E) → rule e ≡ Some f → key f ≡ key e) where
  module _ (t : Listing E) (listing : IsListing key t) (n i : ℕ) (e : E) (was : entry_at t i ≡ Some e) (of_n : key e ≡ n) where
    -- an entry that stays, and one that is cleared
    stays : (f : E) → rule e ≡ Some f → index_of key n (mapped rule t) ≡ Some i
    stays f r = ap (λ m. index_of key m (mapped rule t)) (sym of_n) ∙ index_of-mapped key t listing rule keeps i e f was r

    goes : rule e ≡ None → index_of key n (mapped rule t) ≡ None
    goes r = ap (λ m. index_of key m (mapped rule t)) (sym of_n) ∙ index_of-mapped_cleared key t listing rule keeps i e was r

    now_there : entry_at (mapped rule t) i ≡ rule e
    now_there = entry_at-mapped rule t i ∙ ap (option_and_then rule) was

  pub index_for-mapped : (t : Listing E) → IsListing key t → (n : ℕ)
      → index_for key new n (mapped rule t) ≡ kept_index (index_for key new n t) (rule (entry_for key new n t))
  index_for-mapped t listing n = by_place (index_of key n t) refl where
    by_rule : (i : ℕ) (e : E) → entry_at t i ≡ Some e → key e ≡ n → (o : Option E) → rule e ≡ o
        → index_for key new n (mapped rule t) ≡ kept_index i o
    by_rule i e was of_n (Some f) r = ap (λ o. unwrap_or o 0) (stays t listing n i e was of_n f r)
    by_rule i e was of_n None r = ap (λ o. unwrap_or o 0) (goes t listing n i e was of_n r)

    by_place : (o : Option ℕ) → index_of key n t ≡ o
        → index_for key new n (mapped rule t) ≡ kept_index (index_for key new n t) (rule (entry_for key new n t))
    by_place None h =
        ap (λ o. unwrap_or o 0) (index_of-mapped_none key t listing rule keeps n h)
        ∙ sym (ap (λ o. kept_index (unwrap_or o 0) (rule (entry_for key new n t))) h ∙ kept_zero (rule (entry_for key new n t)))
    by_place (Some i) h =
        let f = found_entry key new t n i h in
        by_rule i f.0 f.1 f.2 (rule f.0) refl
        ∙ sym (ap (λ o. kept_index (unwrap_or o 0) (rule (entry_for key new n t))) h
        ∙ ap (λ e. kept_index i (rule e)) (entry_for-some key new t n i f.0 h f.1))

  -- if the rule makes nothing of the default for a number without an entry
  pub entry_for-mapped : (t : Listing E) → IsListing key t → (n : ℕ) → unwrap_or (rule (new n)) (new n) ≡ new n
      → entry_for key new n (mapped rule t) ≡ unwrap_or (rule (entry_for key new n t)) (new n)
  entry_for-mapped t listing n idle = by_place (index_of key n t) refl where
    by_rule : (i : ℕ) (e : E) → entry_at t i ≡ Some e → key e ≡ n → (o : Option E) → rule e ≡ o
        → entry_for key new n (mapped rule t) ≡ unwrap_or o (new n)
    by_rule i e was of_n (Some f) r =
        entry_for-some key new (mapped rule t) n i f (stays t listing n i e was of_n f r) (now_there t listing n i e was of_n ∙ r)
    by_rule i e was of_n None r = entry_for-none key new (mapped rule t) n (goes t listing n i e was of_n r)

    by_place : (o : Option ℕ) → index_of key n t ≡ o → entry_for key new n (mapped rule t) ≡ unwrap_or (rule (entry_for key new n t)) (new n)
    by_place None h =
        entry_for-none key new (mapped rule t) n (index_of-mapped_none key t listing rule keeps n h)
        ∙ sym idle ∙ sym (ap (λ e. unwrap_or (rule e) (new n)) (entry_for-none key new t n h))
    by_place (Some i) h =
        let f = found_entry key new t n i h in
        by_rule i f.0 f.1 f.2 (rule f.0) refl ∙ sym (ap (λ e. unwrap_or (rule e) (new n)) (entry_for-some key new t n i f.0 h f.1))

-- ---- a commit

-- cells with the same parts
pub same_cell : (c d : Cell) → c.i ≡ d.i → c.entry ≡ d.entry → c.j ≡ d.j → c.page ≡ d.page → c ≡ d
same_cell c d i entry j page = grind arith

pub or_new : (b n : ℕ) (o : Option BttEntry) → b ≡ n → unwrap_or o (new_entry n) ≡ entry_or_new b o
or_new b n None e = ap new_entry (sym e)
or_new b n (Some x) e = refl

pub or_none : (p n : ℕ) (o : Option PttEntry) → p ≡ n → unwrap_or o (no_page n) ≡ page_or_none p o
or_none p n None e = ap no_page (sym e)
or_none p n (Some x) e = refl

module _ (s : State) (blocks : IsListing block_key s.btt) (pages : IsListing page_key s.ptt) where
  pub cell-committed : (b : ℕ) → cell_of (committed_state s) b ≡ committed (cell_of s b)
  unfolding committed_state
  cell-committed b = same_cell (cell_of (committed_state s) b) (committed (cell_of s b))
      (index_for-mapped block_key new_entry committed_entry committed_entry-block s.btt blocks b)
      (entry_for-mapped block_key new_entry committed_entry committed_entry-block s.btt blocks b refl
      ∙ or_new (cell_of s b).entry.block b (committed_entry (cell_of s b).entry) (block-cell_of s b))
      (index_for-mapped page_key no_page committed_page committed_page-page s.ptt pages (page_of b))
      (entry_for-mapped page_key no_page committed_page committed_page-page s.ptt pages (page_of b) refl
      ∙ or_none (cell_of s b).page.page (page_of b) (committed_page (cell_of s b).page) (page-cell_of s b))

-- a live page that is not framed is in promotion, also after a rule that keeps that
abbrev pub AreLive : Listing PttEntry → Type 0
AreLive t = (j : ℕ) (e : PttEntry) → entry_at t j ≡ Some e → is_framed e ≡ false → e.fresh ≡ true

abbrev pub KeepsLive : (PttEntry → Option PttEntry) → Type 0
KeepsLive rule = (e f : PttEntry) → rule e ≡ Some f → (is_framed e ≡ false → e.fresh ≡ true) → is_framed f ≡ false → f.fresh ≡ true

pub live-mapped : (rule : PttEntry → Option PttEntry) → KeepsLive rule → (t : Listing PttEntry) → AreLive t → AreLive (mapped rule t)
live-mapped rule keeps t live j f h = by_entry (entry_at t j) refl (sym (entry_at-mapped rule t j) ∙ h) where
  by_entry : (o : Option PttEntry) → entry_at t j ≡ o → option_and_then rule o ≡ Some f → is_framed f ≡ false → f.fresh ≡ true
  by_entry None was g = cc
  by_entry (Some e) was g = keeps e f g (live j e was)

committed_by-live : (leaving : Bool) (e f : PttEntry) → page_committed_by leaving e ≡ Some f → (is_framed e ≡ false → e.fresh ≡ true)
    → is_framed f ≡ false → f.fresh ≡ true
committed_by-live true e f h live = cc
committed_by-live false e f h live =
    let same : record e { place = e.target; issued = 0 } ≡ f = cc in
    subst (λ (x : PttEntry). is_framed x ≡ false → x.fresh ≡ true) same live

-- what a commit asks for
module _ (s : State) (t : AreSoundTables s) (way : s.under_way ≡ true) (copied : AreCopied s) where
  sound : (b : ℕ) → b < memory_blocks s.p → IsSoundCell true (cell_of s b)
  sound b l = subst (λ (u : Bool). IsSoundCell u (cell_of s b)) way (t.cells b l)

  pub AreSoundTables-committed : CommitKeepsSound → AreSoundTables (committed_state s)
  unfolding committed_state
  AreSoundTables-committed law = record {
    range = t.range;
    btt_size = length-map s.btt.entries (option_and_then committed_entry) ∙ t.btt_size;
    btt_numbers = t.btt_numbers;
    btt_once = IsListing-mapped block_key s.btt t.btt_once committed_entry committed_entry-block;
    ptt_size = length-map s.ptt.entries (option_and_then committed_page) ∙ t.ptt_size;
    ptt_numbers = t.ptt_numbers;
    ptt_once = IsListing-mapped page_key s.ptt t.ptt_once committed_page committed_page-page;
    live_blocks = used-mapped committed_entry s.btt (λ i e f was h. used-committed e.v1 e.work e f refl h);
    live_pages = live-mapped committed_page (λ e f. committed_by-live e.leaving e f) s.ptt t.live_pages;
    counts = t.counts;
    dram_size = t.dram_size;
    cells = λ b l. subst (IsSoundCell false) (sym (cell-committed s t.btt_once t.ptt_once b)) (law (cell_of s b) (sound b l) (copied b l));
  }

  pub Commits-committed : CommitMoves → (n : Device) → HoldAll s n → Commits s (committed_state s) n
  unfolding committed_state
  Commits-committed law n holds =
      let moves : (b : ℕ) → b < memory_blocks s.p
      → Moves (reads s n) (cell_of s b) (committed (cell_of s b)) (reads s n (last (cell_of s b))) (reads s n (last (cell_of s b)))
      = λ b l. law (cell_of s b) (reads s n) (sound b l) (copied b l) (holds b l) in
      let cell : (b : ℕ) → cell_of (committed_state s) b ≡ committed (cell_of s b) = cell-committed s t.btt_once t.ptt_once in
      record {
        penult_is = λ b l. ap (λ (c : Cell). reads s n (penult c)) (cell b) ∙ (moves b l).penult_is;
        last_is = λ b l. ap (λ (c : Cell). reads s n (last c)) (cell b) ∙ (moves b l).last_is;
        work_same = λ b l. ap (λ (c : Cell). reads s n (work c)) (cell b) ∙ (moves b l).work_same;
        holds = λ b l. subst (Holds (reads s n)) (sym (cell b)) (moves b l).holds;
      }

-- a state whose tables were committed
pub committed_parts : {s v : State} {btt : Listing BttEntry} {ptt : Listing PttEntry} → v ≡ s
    → btt ≡ mapped committed_entry v.btt → ptt ≡ mapped committed_page v.ptt
    → record v { btt = btt; ptt = ptt; under_way = false } ≡ committed_state s
unfolding committed_state
committed_parts e of_btt of_ptt = cc
