use Rattle.std.proofs.Common.{sym, arith, ◌<◌, length}
use Rattle.thy_control.specs.State.{State}
use Rattle.thy_control.proofs.CursorLemmas.{AreCursors-block, control_is, AreWorkCounts-block}
use Rattle.thy_control.proofs.BootLemmas.{AreSoundTables-block, block_put_is}
use Rattle.thy_control.proofs.control.Control.put_block.Goals as goal

pub invariant_of-self : goal.invariant_of-self
invariant_of-self c =
    let s : State = c.args.self.now in
    let marks = c.self.inside.marks in
    let inside : c.args.i < length s.btt.entries = omega
    (arith, c.requires.may.inside, c.recall_tables.ensures.btt_size) in
    let before = control_is c.self.view_is c.self.invariant in
    let e = block_put_is c.self.view_is c.args.i c.args.b c.listed.ensures c.put.ensures in
    control_is (sym e) (record {
      tables = AreSoundTables-block c.args.i c.args.b s c.recall_tables.ensures c.requires.booting c.requires.may c.listed_cells_are_sound.ensures;
      marks = AreWorkCounts-block c.args.i c.args.b s marks inside c.requires.may.free before.marks;
      cursors = AreCursors-block c.args.i c.args.b s c.self.inside.cursors inside before.cursors;
    })
