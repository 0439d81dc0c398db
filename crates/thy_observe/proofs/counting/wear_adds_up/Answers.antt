use Rattle.thy_observe.proofs.WearLemmas.{wear-adds-up}
use Rattle.thy_observe.proofs.counting.wear_adds_up.Goals as goal

pub returns : goal.returns
returns g = wear-adds-up
