use Rattle.thy_control.proofs.HoldingLemmas.{IsNew-holding}
use Rattle.thy_control.proofs.laws.a_new_controller_is_ready.Goals as goal

pub returns : goal.returns
returns c = IsNew-holding
