use Rattle.std.proofs.Common.{sym, ◌∙◌, ap, subst}
use Rattle.thy_block.specs.Device.{Device}
use Rattle.thy_table.specs.Places.{IsPlace}
use Rattle.thy_table.specs.Devices.{Devices}
use Rattle.thy_table.specs.Listing.{IsListing}
use Rattle.thy_table.specs.Cells.{target}
use Rattle.thy_control.specs.Keys.{block_key}
use Rattle.thy_control.specs.State.{State, cell_of}
use Rattle.thy_control.proofs.StateLemmas.{IsPlace-target, IsWithin-cell_of, subst_two}
use Rattle.thy_control.proofs.CopyLemmas.{AreSoundTables-copied, devices_are, state_is}
use Rattle.thy_control.proofs.CursorLemmas.{AreCursors-copied, control_is, AreWorkCounts-copied}
use Rattle.thy_control.proofs.control.Control.copy_block.Goals as goal

pub move_block-requires-clause-to : goal.move_block-requires-clause-to
move_block-requires-clause-to g c =
    let s : State = c.args.self.now in
    subst_two (λ (t : State) x. IsPlace t.p x) c.self.view_is
    (c.target.ensures ∙ ap target c.cell-cell.ensures)
    (IsPlace-target s.p (cell_of s c.args.b)
    (IsWithin-cell_of s c.args.b c.recall_tables.ensures c.requires.block))

pub returns : goal.returns
returns g c =
    let m : Device = g.N.Nvm.device c.args.nvm.now in
    let d_is = devices_are c.self.view_is c.args.b m c.cell-cell.ensures
    c.last.ensures c.target.ensures c.in_ok-move_block.ensures.ok in
    record {
      state = state_is c.self.view_is c.args.b m c.cell-cell.ensures c.with_copy-copied.ensures
          c.set.ensures d_is;
      nvm = ap (λ (x : Devices). x.nvm) d_is;
      kept = tt;
      err = tt;
      frame = c.in_ok-move_block.ensures.frame;
      cause = c.in_ok-move_block.ensures.cause;
    }

pub invariant_of-self-2 : goal.invariant_of-self-2
invariant_of-self-2 g c =
    let s : State = c.args.self.now in
    let m : Device = g.N.Nvm.device c.args.nvm.now in
    let marks = c.self.inside.marks in
    let e = (returns g c).state in
    let before = control_is c.self.view_is c.self.invariant in
    control_is (sym e) (record {
      tables = AreSoundTables-copied c.args.b s c.requires.pending m c.recall_tables.ensures
          c.requires.sized c.requires.block
          (subst (λ (t : State). IsListing block_key t.btt) e c.recall_lists_once.ensures);
      marks = AreWorkCounts-copied c.args.b s m marks c.requires.pending before.marks;
      cursors = AreCursors-copied c.args.b s m c.self.inside.cursors c.requires.pending
          before.cursors;
    })
