-- The pages that are live in a controller that boots.
use Rattle.std.proofs.Common.{◌≡◌, ℕ, ◌+◌, ◌*◌, ◌<◌, true, false, Option, Some, None, is_some, option_and_then, refl, sym, ◌∙◌, ap, arith}
use Rattle.std.proofs.Math.ListN.{get_or-map}
use Rattle.thy_block.specs.Geometry.{memory_blocks}
use Rattle.thy_dram.specs.Contents.{Contents}
use Rattle.thy_block.specs.declared.parameters.Parameters.{Parameters}
use Rattle.thy_layout.specs.Entries.{entry_at}
use Rattle.thy_table.specs.Listing.{entry_at as live_at}
use Rattle.thy_table.specs.declared.block_entry.BttEntry.{BttEntry}
use Rattle.thy_table.specs.declared.page_entry.PttEntry.{PttEntry}
use Rattle.thy_control.specs.Boot.{IsBooting, MayFrame, page_in, framed_block}
use Rattle.thy_control.specs.CheckpointTables.{tables0, entry_lists, page_lists}
use Rattle.thy_control.specs.Keys.{block_key, page_key}
use Rattle.thy_control.specs.State.{State, AreSoundTables, new_state}
use Rattle.thy_control.proofs.BootLemmas.{IsBooting-new}
use Rattle.thy_control.proofs.NewLemmas.{entry_at-empty}
use Rattle.thy_thynvm_parts.specs.Filling.{IsFresh}
use Rattle.thy_control.proofs.FindLemmas.{entry_for-there}
use Rattle.thy_table.specs.PageEntry.{no_page}

-- a block of a listed page is one of memory
pub framed_inside : (c : State) (i m : ℕ) → AreSoundTables c → MayFrame i m c → framed_block i m c < memory_blocks c.p
framed_inside c i m t may = by_entry (live_at c.ptt i) refl may.listed where
  by_entry : (o : Option PttEntry) → live_at c.ptt i ≡ o → is_some (live_at c.ptt i) ≡ true → framed_block i m c < memory_blocks c.p
  by_entry None s some = let both : false ≡ true = sym (ap is_some s) ∙ some in absurd (cc)
  by_entry (Some e) s some =
      let page = (entry_for-there page_key no_page c.ptt t.ptt_once i e s).2 in
      let is : framed_block i m c ≡ 64 * e.page + m = ap (λ (o : Option PttEntry). 64 * page_in o + m) s in
      omega (arith, page, is, t.ptt_numbers, may.inside)

-- a page is live in a booting controller exactly if the committed checkpoint lists it
pub live_in_tables : (c : State) → IsBooting c → (j : ℕ) → is_some (live_at c.ptt j) ≡ is_some (entry_at (tables0 c).ptt j)
live_in_tables c booting j =
    by_entry (live_at c.ptt j) refl
    ∙ ap is_some (sym (get_or-map (option_and_then (λ (e : PttEntry). page_lists e.place e.page)) c.ptt.entries j None))
  where
    by_entry : (o : Option PttEntry) → live_at c.ptt j ≡ o
        → is_some (live_at c.ptt j) ≡ is_some (option_and_then (λ (e : PttEntry). page_lists e.place e.page) (live_at c.ptt j))
    by_entry None s = ap is_some s ∙ sym (ap (λ (x : Option PttEntry). is_some (option_and_then (λ (e : PttEntry). page_lists e.place e.page) x)) s)
    by_entry (Some e) s =
        ap is_some s ∙ sym (ap is_some (ap (λ (q : PttEntry). page_lists q.place q.page) (booting.pages j e s)))
        ∙ sym (ap (λ (x : Option PttEntry). is_some (option_and_then (λ (q : PttEntry). page_lists q.place q.page) x)) s)

-- a new controller lists nothing
pub IsFresh-new : (p : Parameters) (dram : Contents) → IsFresh (new_state p dram)
IsFresh-new p dram = record {
  booting = IsBooting-new p dram;
  no_blocks = λ k. get_or-map (option_and_then (λ (e : BttEntry). entry_lists e.v0 e.block)) (new_state p dram).btt.entries k None
      ∙ ap (option_and_then (λ (e : BttEntry). entry_lists e.v0 e.block)) (entry_at-empty block_key p.btt (memory_blocks p) k);
  no_pages = λ k. get_or-map (option_and_then (λ (e : PttEntry). page_lists e.place e.page)) (new_state p dram).ptt.entries k None
      ∙ ap (option_and_then (λ (e : PttEntry). page_lists e.place e.page)) (entry_at-empty page_key p.ptt p.pages k);
  no_counts = refl;
}
