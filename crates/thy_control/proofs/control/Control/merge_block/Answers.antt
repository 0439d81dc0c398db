use Rattle.std.proofs.Common.{◌-◌, refl, sym, subst, arith}
use Rattle.thy_table.specs.Listing.{IsListing}
use Rattle.thy_control.specs.Keys.{block_key, page_key}
use Rattle.thy_control.specs.State.{State}
use Rattle.thy_control.proofs.MergeLemmas.{AreSoundTables-merged, framed_same, dram_is, merged_is}
use Rattle.thy_control.specs.Overlay.{AreWorkCounts}
use Rattle.thy_control.proofs.CursorLemmas.{AreCursors-merged, control_is, AreWorkCounts-merged, overlaid-some}
use Rattle.thy_control.specs.declared.overlay.WorkCounts.{WorkCounts}
use Rattle.thy_control.proofs.control.Control.merge_block.Goals as goal

pub returns : goal.returns
returns c = merged_is c.self.view_is c.args.b c.cell-cell.ensures c.clear.ensures c.set.ensures
    (dram_is c.self.view_is c.args.b c.cell-cell.ensures c.buffer.ensures c.frame.ensures
    c.number.ensures.place c.number-2.ensures.place
    c.read-block.ensures c.write.ensures)

pub overflow_sub-self : goal.overflow_sub-self
overflow_sub-self c =
    let s : State = c.args.self.now in
    let marks = c.self.inside.marks in
    let before : AreWorkCounts s.ptt s.btt marks = subst
    (λ (t : State). AreWorkCounts t.ptt t.btt marks) c.self.view_is c.self.invariant.marks in
    omega (
      arith,
      overlaid-some c.args.b s c.requires.framed c.requires.work marks c.recall_tables.ensures
          c.requires.block c.requires.idle
          c.a_merge_keeps_versions.ensures c.a_dirty_page_keeps_others.ensures before,
    )

pub invariant_of-self : goal.invariant_of-self
invariant_of-self c =
    let s : State = c.args.self.now in
    let marks = c.self.inside.marks in
    let now : WorkCounts = record marks { overlaid = marks.overlaid - 1 } in
    let e = returns c in
    let merge = c.a_merge_keeps_versions.ensures in
    let others = c.a_dirty_page_keeps_others.ensures in
    let before = control_is c.self.view_is c.self.invariant in
    let some = overlaid-some c.args.b s c.requires.framed c.requires.work marks c.recall_tables.ensures
    c.requires.block c.requires.idle merge others before.marks in
    control_is (sym e) (record {
      tables = AreSoundTables-merged c.args.b s c.requires.framed c.requires.work c.recall_tables.ensures
          c.requires.block c.requires.idle merge others
          (subst (λ (t : State). IsListing block_key t.btt) e c.recall_lists_once.ensures)
          (subst (λ (t : State). IsListing page_key t.ptt) e c.recall_lists_once-2.ensures);
      marks = AreWorkCounts-merged c.args.b s c.requires.framed c.requires.work marks now
          c.recall_tables.ensures c.requires.block c.requires.idle merge others
          before.marks (omega (arith, some)) refl;
      cursors = AreCursors-merged c.args.b s c.self.inside.cursors c.requires.framed c.requires.work
          (framed_same c.args.b s c.requires.framed c.requires.work c.recall_tables.ensures
          c.requires.block c.requires.idle merge others) before.cursors;
    })
