use Rattle.thy_thynvm_parts.proofs.LawLemmas.{epochs_are_short, boots_are_short}
use Rattle.thy_thynvm_parts.proofs.laws.epochs_and_boots_are_short.Goals as goal

pub returns-clause-epochs : goal.returns-clause-epochs
returns-clause-epochs c = epochs_are_short

pub returns-clause-boots : goal.returns-clause-boots
returns-clause-boots c = boots_are_short
