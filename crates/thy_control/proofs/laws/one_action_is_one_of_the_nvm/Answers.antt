use Rattle.thy_control.proofs.OnceLemmas.{one_of_nvm}
use Rattle.thy_control.proofs.laws.one_action_is_one_of_the_nvm.Goals as goal

pub returns : goal.returns
returns c = one_of_nvm
