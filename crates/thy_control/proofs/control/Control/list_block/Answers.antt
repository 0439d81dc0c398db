use Rattle.std.proofs.Common.{sym, subst}
use Rattle.thy_control.specs.State.{State}
use Rattle.thy_control.specs.Boot.{IsBooting, HaveTables, with_block}
use Rattle.thy_control.specs.CheckpointTables.{tables0}
use Rattle.thy_control.proofs.BootLemmas.{IsBooting-block, HaveTables-block}
use Rattle.thy_control.proofs.control.Control.list_block.Goals as goal

pub returns-clause-booting : goal.returns-clause-booting
returns-clause-booting c =
    subst (λ (t : State). IsBooting t) (sym c.put_block.ensures)
    (IsBooting-block c.args.i c.args.b c.args.self.now c.recall_tables.ensures c.requires.booting c.requires.may)

pub returns-clause-tables : goal.returns-clause-tables
returns-clause-tables c =
    let s : State = c.args.self.now in
    subst (λ (t : State). HaveTables t (with_block c.args.i c.args.b (tables0 s))) (sym c.put_block.ensures)
    (HaveTables-block c.args.i c.args.b s c.recall_tables.ensures c.requires.booting c.requires.may)
