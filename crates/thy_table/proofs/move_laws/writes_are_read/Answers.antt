use Rattle.thy_table.proofs.MoveLemmas.{read_at-written_same}
use Rattle.thy_table.proofs.move_laws.writes_are_read.Goals as goal

pub returns : goal.returns
returns c = read_at-written_same
