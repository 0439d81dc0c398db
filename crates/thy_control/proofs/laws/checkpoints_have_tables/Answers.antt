use Rattle.thy_control.proofs.TablesLemmas.{AreTablesOf-committed, AreTablesOf-under_way}
use Rattle.thy_control.proofs.laws.checkpoints_have_tables.Goals as goal

pub returns-clause-committed : goal.returns-clause-committed
returns-clause-committed c = AreTablesOf-committed

pub returns-clause-under_way : goal.returns-clause-under_way
returns-clause-under_way c = AreTablesOf-under_way
