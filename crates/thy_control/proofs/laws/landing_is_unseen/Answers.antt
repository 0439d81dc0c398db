use Rattle.thy_control.proofs.DrainLemmas.{IsUnseen-landed, IsUnseen-nvm_drained, IsUnseen-settled}
use Rattle.thy_control.proofs.laws.landing_is_unseen.Goals as goal

pub returns-clause-landing : goal.returns-clause-landing
returns-clause-landing c = IsUnseen-landed

pub returns-clause-drain : goal.returns-clause-drain
returns-clause-drain c = IsUnseen-nvm_drained

pub returns-clause-barrier : goal.returns-clause-barrier
returns-clause-barrier c = IsUnseen-settled
