-- A slot is listed in one way: its tables and counts, with what listing leaves, are all that a booting controller has.
use Rattle.std.proofs.Common.{◌≡◌, ℕ, Bool, List, length, get_or, map, option_and_then, option_map, Option, Some, None, refl, sym, ◌∙◌, ap}
use Rattle.std.proofs.lemmas.List.{ext_get_or}
use Rattle.std.proofs.Math.ListN.{get_or-map}
use Rattle.thy_block.specs.declared.block.Block.{Block}
use Rattle.thy_block.specs.declared.parameters.Parameters.{Parameters}
use Rattle.thy_block.specs.Geometry.{memory_blocks}
use Rattle.thy_checkpoint.specs.Filling.{ListsOn}
use Rattle.thy_control.specs.CheckpointTables.{tables0, entry_lists, page_lists}
use Rattle.thy_control.specs.State.{State, state_in}
use Rattle.thy_dram.specs.Contents.{Contents}
use Rattle.thy_layout.specs.Commit.{version_of}
use Rattle.thy_record.specs.Number.{scheme_number}
use Rattle.thy_record.specs.Slots.{tables_in, counts_in}
use Rattle.thy_record.specs.Tables.{Tables}
use Rattle.thy_thynvm_parts.specs.Filling.{ListsSlot, filling_thynvm}
use Rattle.thy_table.specs.declared.block_entry.BttEntry.{BttEntry}
use Rattle.thy_table.specs.declared.page_entry.PttEntry.{PttEntry}
use Rattle.thy_table.specs.BlockEntry.{listed_entry}
use Rattle.thy_table.specs.Listing.{Listing, listing}
use Rattle.thy_table.specs.PageEntry.{listed_page}

-- ---- entries that are what they list

module _ {E : Type 0} (says : E → Option ℕ) (of : ℕ → E) where
  entry_back : (o : Option E) → ((e : E) → o ≡ Some e → option_map of (says e) ≡ Some e) → option_map of (option_and_then says o) ≡ o
  entry_back None h = refl
  entry_back (Some e) h = h e refl

  entries_once : (es fs : List (Option E)) → length es ≡ length fs
      → ((i : ℕ) (e : E) → get_or es i None ≡ Some e → option_map of (says e) ≡ Some e)
      → ((i : ℕ) (e : E) → get_or fs i None ≡ Some e → option_map of (says e) ≡ Some e)
      → map (option_and_then says) es ≡ map (option_and_then says) fs → es ≡ fs
  entries_once es fs long a b same = ext_get_or None es fs long (λ i l.
      sym (entry_back (get_or es i None) (a i))
      ∙ ap (option_map of)
      (sym (get_or-map (option_and_then says) es i None)
      ∙ ap (λ (xs : List (Option ℕ)). get_or xs i None) same
      ∙ get_or-map (option_and_then says) fs i None)
      ∙ entry_back (get_or fs i None) (b i))

-- what each entry lists
abbrev block_of : BttEntry → Option ℕ
block_of e = entry_lists e.v0 e.block

abbrev page_of : PttEntry → Option ℕ
page_of e = page_lists e.place e.page

block_back : (e : BttEntry) → e ≡ listed_entry e.block → option_map listed_entry (block_of e) ≡ Some e
block_back e is = ap (λ (x : BttEntry). option_map listed_entry (block_of x)) is ∙ sym (ap Some is)

page_back : (e : PttEntry) → e ≡ listed_page e.page → option_map listed_page (page_of e) ≡ Some e
page_back e is = ap (λ (x : PttEntry). option_map listed_page (page_of x)) is ∙ sym (ap Some is)

listing_once : {E : Type 0} (t u : Listing E) → t.entries ≡ u.entries → t.numbers ≡ u.numbers → t ≡ u
listing_once {E} t u entries numbers =
    ap (λ (es : List (Option E)). listing es t.numbers) entries ∙ ap (λ (n : ℕ). listing u.entries n) numbers

-- ---- the controller

module _ (d e : State) (commit : Block) (slot : List Block) (a : ListsSlot commit slot d) (b : ListsSlot commit slot e)
    (same : d.p ≡ e.p) where
  tables : tables0 d ≡ tables0 e
  tables = a.are ∙ ap (λ (p : Parameters). tables_in p slot) same ∙ sym b.are

  blocks_once : d.btt ≡ e.btt
  blocks_once = listing_once d.btt e.btt
      (entries_once block_of listed_entry d.btt.entries e.btt.entries
      (a.tables.btt_size ∙ ap (λ (p : Parameters). p.btt) same ∙ sym b.tables.btt_size)
      (λ i x is. block_back x (a.booting.blocks i x is)) (λ i x is. block_back x (b.booting.blocks i x is))
      (ap (λ (t : Tables). t.btt) tables))
      (a.tables.btt_numbers ∙ ap memory_blocks same ∙ sym b.tables.btt_numbers)

  pages_once : d.ptt ≡ e.ptt
  pages_once = listing_once d.ptt e.ptt
      (entries_once page_of listed_page d.ptt.entries e.ptt.entries
      (a.tables.ptt_size ∙ ap (λ (p : Parameters). p.ptt) same ∙ sym b.tables.ptt_size)
      (λ j x is. page_back x (a.booting.pages j x is)) (λ j x is. page_back x (b.booting.pages j x is))
      (ap (λ (t : Tables). t.ptt) tables))
      (a.tables.ptt_numbers ∙ ap (λ (p : Parameters). p.pages) same ∙ sym b.tables.ptt_numbers)

  counts_once : d.counts.counts ≡ e.counts.counts → d.counts ≡ e.counts
  counts_once counts =
      ap (λ (ns : List ℕ). record d.counts { counts = ns }) counts
      ∙ ap (λ (ns : List ℕ). record d.counts { counts = e.counts.counts; lasts = ns })
      (a.counts ∙ ap (λ (p : Parameters). counts_in (version_of scheme_number p commit) p slot) same ∙ sym b.counts)
      ∙ ap (λ (n : ℕ). record e.counts { high = n; low = d.counts.low })
      (a.tables.counts.high ∙ ap (λ (p : Parameters). p.high) same ∙ sym b.tables.counts.high)
      ∙ ap (λ (n : ℕ). record e.counts { low = n }) (a.tables.counts.low ∙ ap (λ (p : Parameters). p.low) same ∙ sym b.tables.counts.low)

pub slot_listed_once : (c d e : State) (commit : Block) (slot : List Block)
    → ListsOn filling_thynvm commit slot c d → ListsOn filling_thynvm commit slot c e → d ≡ e
slot_listed_once c d e commit slot a b =
    let same : d.p ≡ e.p = a.left.same_p ∙ sym b.left.same_p in
    ap (λ (p : Parameters). state_in p d.btt d.ptt d.counts d.under_way d.dram) same
    ∙ ap (λ (btt : Listing BttEntry). state_in e.p btt d.ptt d.counts d.under_way d.dram) (blocks_once d e commit slot a.lists b.lists same)
    ∙ ap (λ (ptt : Listing PttEntry). state_in e.p e.btt ptt d.counts d.under_way d.dram) (pages_once d e commit slot a.lists b.lists same)
    ∙ ap (λ counts. state_in e.p e.btt e.ptt counts d.under_way d.dram)
    (counts_once d e commit slot a.lists b.lists same (a.left.keeps.counts ∙ sym b.left.keeps.counts))
    ∙ ap (λ (way : Bool). state_in e.p e.btt e.ptt e.counts way d.dram) (a.lists.booting.idle ∙ sym b.lists.booting.idle)
    ∙ ap (λ (dram : Contents). state_in e.p e.btt e.ptt e.counts e.under_way dram) (a.left.same_dram ∙ sym b.left.same_dram)
