use Rattle.thy_computer.proofs.KeepsLemmas.{Spares-action, Spares-failed_action}
use Rattle.thy_computer.proofs.checkpoint_laws.actions_spare.Goals as goal

pub returns-clause-done : goal.returns-clause-done
returns-clause-done c = Spares-action

pub returns-clause-failed : goal.returns-clause-failed
returns-clause-failed c = Spares-failed_action
