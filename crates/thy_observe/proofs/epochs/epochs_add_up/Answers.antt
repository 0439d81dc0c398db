use Rattle.thy_observe.proofs.EpochLemmas.{epochs-sum}
use Rattle.thy_observe.proofs.epochs.epochs_add_up.Goals as goal

pub returns : goal.returns
returns g = epochs-sum
