use Rattle.thy_table.proofs.MoveLemmas.{no_more-failed_other}
use Rattle.thy_table.proofs.move_laws.others_hold_no_more_on_failure.Goals as goal

pub returns : goal.returns
returns c = no_more-failed_other
