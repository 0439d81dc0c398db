use Rattle.thy_table.proofs.MoveLemmas.{read_at-written_other}
use Rattle.thy_table.proofs.move_laws.others_read_as_before.Goals as goal

pub returns : goal.returns
returns c = read_at-written_other
