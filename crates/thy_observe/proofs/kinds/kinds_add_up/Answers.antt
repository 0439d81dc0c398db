use Rattle.thy_observe.proofs.KindLemmas.{kinds-add-up}
use Rattle.thy_observe.proofs.kinds.kinds_add_up.Goals as goal

pub returns : goal.returns
returns g = kinds-add-up
