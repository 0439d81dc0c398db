-- A new controller's tables.
use Rattle.std.proofs.Common.{◌≡◌, ℕ, true, false, length, replicate, refl, sym, ◌∙◌, ap, subst, arith, Some, None}
use Rattle.std.proofs.lemmas.Grind.{common_steps}
use Rattle.thy_block.specs.declared.parameters.Parameters.{Parameters}
use Rattle.thy_block.specs.Geometry.{IsInRange, memory_blocks}
use Rattle.thy_block.specs.Places.{dram_blocks}
use Rattle.thy_block.specs.Store.{page_of}
use Rattle.thy_dram.specs.Contents.{Contents}
use Rattle.thy_table.specs.Listing.{IsListing, entry_at, lists, index_of, empty_table}
use Rattle.thy_table.proofs.FirstLemmas.{position-none}
use Rattle.thy_table.specs.declared.block_entry.BttEntry.{BttEntry}
use Rattle.thy_table.specs.declared.page_entry.PttEntry.{PttEntry}
use Rattle.thy_table.specs.BlockEntry.{new_entry}
use Rattle.thy_table.specs.PageEntry.{no_page}
use Rattle.thy_table.specs.declared.cell.Cell.{Cell}
use Rattle.thy_table.specs.Sound.{IsSoundCell}
use Rattle.thy_table.specs.BetweenCheckpoints.{NewCellsAreSound}
use Rattle.thy_control.specs.Find.{entry_for, index_for}
use Rattle.thy_control.specs.Keys.{block_key, page_key}
use Rattle.thy_control.specs.State.{AreSoundTables, cell_of, new_state}
use Rattle.thy_control.proofs.CountsLemmas.{AreCountsOf-new}
use Rattle.thy_control.proofs.FindLemmas.{entry_for-none}

module _ {E : Type 0} (key : E → ℕ) (size numbers : ℕ) where
  pub entry_at-empty : (i : ℕ) → entry_at (empty_table {E = E} size numbers) i ≡ None
  entry_at-empty i = grind (arith, common_steps)

  pub IsListing-empty : IsListing key (empty_table size numbers)
  IsListing-empty = record {
    found = λ i n h. let none : false ≡ true = sym (ap (lists key n) (entry_at-empty i)) ∙ h in cc;
    inside = λ i n h. let none : false ≡ true = sym (ap (lists key n) (entry_at-empty i)) ∙ h in absurd cc;
  }

  pub index_of-empty : (n : ℕ) → index_of key n (empty_table size numbers) ≡ None
  index_of-empty n = position-none (lists key n) None (replicate size None) (λ k l. ap (lists key n) (entry_at-empty k))

pub AreSoundTables-new : NewCellsAreSound → (p : Parameters) (dram : Contents) → IsInRange p → length dram.blocks ≡ dram_blocks p
    → AreSoundTables (new_state p dram)
AreSoundTables-new new_sound p dram range size = record {
  range = range;
  btt_size = grind (arith, common_steps);
  btt_numbers = refl;
  btt_once = IsListing-empty block_key p.btt (memory_blocks p);
  ptt_size = grind (arith, common_steps);
  ptt_numbers = refl;
  ptt_once = IsListing-empty page_key p.ptt p.pages;
  live_blocks = λ i e h. let none : None ≡ Some e = sym (entry_at-empty block_key p.btt (memory_blocks p) i) ∙ h in absurd (cc);
  live_pages = λ j e h. let none : None ≡ Some e = sym (entry_at-empty page_key p.ptt p.pages j) ∙ h in absurd (cc);
  counts = AreCountsOf-new p;
  dram_size = size;
  cells = λ b l.
      let s = new_state p dram in
      let entry : entry_for block_key new_entry b s.btt ≡ new_entry b =
      entry_for-none block_key new_entry s.btt b (index_of-empty block_key p.btt (memory_blocks p) b) in
      let page : entry_for page_key no_page (page_of b) s.ptt ≡ no_page (page_of b) =
      entry_for-none page_key no_page s.ptt (page_of b) (index_of-empty page_key p.ptt p.pages (page_of b)) in
      let i : ℕ = index_for block_key new_entry b s.btt in
      let j : ℕ = index_for page_key no_page (page_of b) s.ptt in
      let one : cell_of s b ≡ record { i = i; entry = new_entry b; j = j; page = no_page (page_of b) }
      = ap (λ (e : BttEntry). record (cell_of s b) { entry = e }) entry
      ∙ ap (λ (q : PttEntry). record (cell_of s b) { entry = new_entry b; page = q }) page in
      subst (λ (c : Cell). IsSoundCell false c) (sym one) (new_sound i j b (page_of b) false).bare;
}
