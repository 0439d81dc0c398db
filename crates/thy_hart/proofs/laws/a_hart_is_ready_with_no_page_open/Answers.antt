use Rattle.thy_hart.proofs.StepLaws.{ready-closed}
use Rattle.thy_hart.proofs.laws.a_hart_is_ready_with_no_page_open.Goals as goal

pub returns : goal.returns
returns c = ready-closed
