use Rattle.std.proofs.Common.{sym, subst}
use Rattle.thy_control.specs.State.{State}
use Rattle.thy_control.specs.Boot.{IsBooting, HaveTables, with_page}
use Rattle.thy_control.specs.CheckpointTables.{tables0}
use Rattle.thy_control.proofs.BootLemmas.{IsBooting-page, HaveTables-page}
use Rattle.thy_control.proofs.control.Control.list_page.Goals as goal

pub returns-clause-booting : goal.returns-clause-booting
returns-clause-booting c =
    subst (λ (t : State). IsBooting t) (sym c.put_page.ensures)
    (IsBooting-page c.args.j c.args.page c.args.self.now c.recall_tables.ensures c.requires.booting c.requires.may)

pub returns-clause-tables : goal.returns-clause-tables
returns-clause-tables c =
    let s : State = c.args.self.now in
    subst (λ (t : State). HaveTables t (with_page c.args.j c.args.page (tables0 s))) (sym c.put_page.ensures)
    (HaveTables-page c.args.j c.args.page s c.recall_tables.ensures c.requires.booting c.requires.may)
