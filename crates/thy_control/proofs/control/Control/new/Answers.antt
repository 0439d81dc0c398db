use Rattle.std.proofs.Common.{◌≡◌, ℕ, false, sym, ◌∙◌, ap, subst}
use Rattle.thy_block.specs.declared.parameters.Parameters.{Parameters}
use Rattle.thy_block.specs.Geometry.{memory_blocks}
use Rattle.thy_table.specs.Listing.{Listing, empty_table}
use Rattle.thy_table.specs.declared.block_entry.BttEntry.{BttEntry}
use Rattle.thy_table.specs.declared.page_entry.PttEntry.{PttEntry}
use Rattle.thy_table.specs.Counts.{Tally, uncounted}
use Rattle.thy_control.specs.State.{AreSoundTables}
use Rattle.thy_control.specs.Overlay.{AreWorkCounts}
use Rattle.thy_control.proofs.MarkLemmas.{no_work_counts, AreWorkCounts-new}
use Rattle.thy_control.proofs.NewLemmas.{AreSoundTables-new}
use Rattle.thy_control.proofs.control.Control.new.Goals as goal

pub invariant_of-result : goal.invariant_of-result
invariant_of-result c =
    let p : Parameters = c.args.geometry.now in
    let numbers : c.numbers-numbers.result ≡ p = c.numbers-numbers.ensures.same in
    let btt : empty_table {E = BttEntry} p.btt (memory_blocks p) ≡ c.in_ok-btt.btt
    = ap (λ (m : ℕ). empty_table p.btt m) (sym c.memory_blocks.ensures.blocks)
    ∙ ap (λ (q : Parameters). empty_table q.btt c.memory_blocks.result) (sym numbers) ∙ sym c.in_ok-btt.ensures in
    let ptt : empty_table {E = PttEntry} p.ptt p.pages ≡ c.in_ok-ptt.ptt
    = ap (λ (q : Parameters). empty_table q.ptt q.pages) (sym numbers) ∙ sym c.in_ok-ptt.ensures in
    let counts : uncounted p.pages p.high p.low ≡ c.in_ok-counts.counts
    = ap (λ (q : Parameters). uncounted q.pages q.high q.low) (sym numbers) ∙ sym c.in_ok-counts.ensures in
    record {
      tables = subst (λ (t : Tally). AreSoundTables (record { p = p; btt = c.in_ok-btt.btt; ptt = c.in_ok-ptt.ptt; counts = t; under_way = false; dram = c.args.dram })) counts
          (subst (λ (t : Listing PttEntry). AreSoundTables (record { p = p; btt = c.in_ok-btt.btt; ptt = t; counts = uncounted p.pages p.high p.low; under_way = false; dram = c.args.dram })) ptt
          (subst (λ (t : Listing BttEntry). AreSoundTables (record { p = p; btt = t; ptt = empty_table p.ptt p.pages; counts = uncounted p.pages p.high p.low; under_way = false; dram = c.args.dram })) btt
          (AreSoundTables-new c.new_cells_are_sound.ensures p c.args.dram c.memory_blocks.ensures.in_range c.requires)));
      cursors = c.start-cursors.ensures c.in_ok-ptt.ptt c.in_ok-btt.btt;
      marks = subst (λ (t : Listing PttEntry). AreWorkCounts t c.in_ok-btt.btt no_work_counts) ptt
          (subst (λ (t : Listing BttEntry). AreWorkCounts (empty_table p.ptt p.pages) t no_work_counts) btt (AreWorkCounts-new p));
    }
