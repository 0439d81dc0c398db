use Rattle.thy_table.specs.Cells.{work}
use Rattle.std.proofs.Common.{◌≡◌, sym, ◌∙◌, ap, subst}
use Rattle.thy_table.specs.declared.place.Place.{Place}
use Rattle.thy_table.specs.Places.{IsPlace}
use Rattle.thy_control.specs.State.{cell_of}
use Rattle.thy_control.proofs.StateLemmas.{IsPlace-work, IsWithin-cell_of}
use Rattle.thy_control.proofs.StayLemmas.{stays_read}
use Rattle.thy_control.proofs.control.Control.load.Goals as goal

pub read-requires-clause-place : goal.read-requires-clause-place
read-requires-clause-place g c =
    let s = c.args.self.now in
    let is : c.work.result ≡ work (cell_of s c.args.b) = c.work.ensures ∙ ap work c.cell-cell.ensures in
    subst (λ (x : Place). IsPlace s.p x) (sym is)
    (IsPlace-work s.p (cell_of s c.args.b) (IsWithin-cell_of s c.args.b c.recall_tables.ensures c.requires.block))

pub returns-clause-stays : goal.returns-clause-stays
returns-clause-stays g c =
    stays_read c.args.self.now (g.N.Nvm.device c.args.nvm.now)
    (g.N.Nvm.device c.read.new.nvm) c.read.result c.read.ensures.same c.read.ensures.err c.read.ensures.frame
