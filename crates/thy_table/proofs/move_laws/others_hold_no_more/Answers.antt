use Rattle.thy_table.proofs.MoveLemmas.{no_more-written_other}
use Rattle.thy_table.proofs.move_laws.others_hold_no_more.Goals as goal

pub returns : goal.returns
returns c = no_more-written_other
