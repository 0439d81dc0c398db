use Rattle.std.proofs.Common.{sym, arith, ◌<◌, length}
use Rattle.thy_control.specs.State.{State}
use Rattle.thy_control.proofs.CursorLemmas.{AreCursors-page, control_is, AreWorkCounts-page}
use Rattle.thy_control.proofs.BootLemmas.{AreSoundTables-page, page_put_is}
use Rattle.thy_control.proofs.control.Control.put_page.Goals as goal

pub invariant_of-self : goal.invariant_of-self
invariant_of-self c =
    let s : State = c.args.self.now in
    let marks = c.self.inside.marks in
    let inside : c.args.j < length s.ptt.entries = omega
    (arith, c.requires.may.inside, c.recall_tables.ensures.ptt_size) in
    let before = control_is c.self.view_is c.self.invariant in
    let e = page_put_is c.self.view_is c.args.j c.args.page c.listed.ensures c.put.ensures in
    control_is (sym e) (record {
      tables = AreSoundTables-page c.args.j c.args.page s c.recall_tables.ensures c.requires.booting c.requires.may c.listed_cells_are_sound.ensures;
      marks = AreWorkCounts-page c.args.j c.args.page s marks c.requires.booting inside
          c.requires.may.free before.marks;
      cursors = AreCursors-page c.args.j c.args.page s c.self.inside.cursors c.requires.booting
          inside
          before.cursors;
    })
