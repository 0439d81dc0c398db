use Rattle.thy_table.proofs.MoveLemmas.{AreSized-written_at}
use Rattle.thy_table.proofs.move_laws.writes_keep_sizes.Goals as goal

pub returns : goal.returns
returns c = AreSized-written_at
