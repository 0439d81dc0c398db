use Rattle.std.proofs.Common.{◌≡◌, ◌+◌, if◌then◌else◌, sym, ◌∙◌, ap, subst, arith}
use Rattle.thy_block.specs.Device.{Device}
use Rattle.thy_table.specs.Places.{IsPlace}
use Rattle.thy_table.specs.Listing.{IsListing}
use Rattle.thy_table.specs.declared.page_entry.PttEntry.{PttEntry}
use Rattle.thy_table.specs.PageEntry.{is_framed}
use Rattle.thy_table.specs.declared.cell.Cell.{Cell}
use Rattle.thy_table.specs.Cells.{work}
use Rattle.thy_table.specs.Checkpoint.{with_filled}
use Rattle.thy_control.specs.Keys.{page_key}
use Rattle.thy_control.specs.State.{State, cell_of}
use Rattle.thy_control.specs.Overlay.{AreWorkCounts}
use Rattle.thy_control.proofs.CursorLemmas.{AreCursors-filled, control_is}
use Rattle.thy_control.proofs.StateLemmas.{IsPlace-work, IsWithin-cell_of, subst_two}
use Rattle.thy_control.proofs.FillLemmas.{AreSoundTables-filled, marks-filled, some-promoted, devices_are, state_is}
use Rattle.thy_control.proofs.control.Control.fill_block.Goals as goal

pub move_to_dram-requires-clause-from : goal.move_to_dram-requires-clause-from
move_to_dram-requires-clause-from g c =
    let s : State = c.args.self.now in
    subst_two (λ (t : State) x. IsPlace t.p x) c.self.view_is
    (c.work.ensures ∙ ap work c.cell-cell.ensures)
    (IsPlace-work s.p (cell_of s c.args.b)
    (IsWithin-cell_of s c.args.b c.recall_tables.ensures c.requires.block))

pub marks_after-self-inside-requires : goal.marks_after-self-inside-requires
marks_after-self-inside-requires g c =
    let s : State = c.args.self.now in
    let before : AreWorkCounts s.ptt s.btt c.self.inside.marks =
    subst (λ (t : State). AreWorkCounts t.ptt t.btt c.self.inside.marks) c.self.view_is c.self.invariant.marks in
    omega (arith, before.promoted_is, some-promoted c.args.b s c.requires.fresh c.requires.unframed)

pub returns-clause-fills : goal.returns-clause-fills
returns-clause-fills g c =
    let m : Device = g.N.Nvm.device c.args.nvm.now in
    let d_is = devices_are c.self.view_is c.args.b m c.cell-cell.ensures
    c.work.ensures c.frame.ensures c.in_ok-move_to_dram.ensures.ok in
    record {
      state = state_is c.self.view_is c.args.b m c.cell-cell.ensures c.with_filled-filled.ensures
          c.set.ensures d_is;
      nvm = c.in_ok-move_to_dram.ensures.same;
      kept = tt;
      err = tt;
      frame = c.in_ok-move_to_dram.ensures.frame;
      cause = c.in_ok-move_to_dram.ensures.cause;
    }

pub invariant_of-self-2 : goal.invariant_of-self-2
invariant_of-self-2 g c =
    let s : State = c.args.self.now in
    let m : Device = g.N.Nvm.device c.args.nvm.now in
    let marks = c.self.inside.marks in
    let now = c.marks_after-self-inside.result in
    let e = (returns-clause-fills g c).state in
    let before = control_is c.self.view_is c.self.invariant in
    let page : c.with_filled-filled.result.page ≡ (with_filled (cell_of s c.args.b)).page
    = ap (λ (x : Cell). x.page)
    (c.with_filled-filled.ensures ∙ ap with_filled c.cell-cell.ensures) in
    let fewer = ap (λ (x : PttEntry). now.promoted + (if is_framed x then 1 else 0)) (sym page)
    ∙ c.marks_after-self-inside.ensures.promoted in
    control_is (sym e) (record {
      tables = AreSoundTables-filled c.args.b s c.requires.fresh m c.recall_tables.ensures c.requires.sized
          c.requires.block c.requires.due
          c.a_promotion_keeps_versions.ensures c.a_promotion_keeps_others.ensures
          (subst (λ (t : State). IsListing page_key t.ptt) e c.recall_lists_once.ensures);
      marks = marks-filled c.args.b s c.requires.fresh m c.recall_tables.ensures marks now
          c.requires.unframed (omega (arith, c.requires.due))
          before.marks c.marks_after-self-inside.ensures.overlaid fewer;
      cursors = AreCursors-filled c.args.b s m c.self.inside.cursors c.requires.fresh
          c.requires.unframed
          c.recall_tables.ensures before.cursors;
    })
