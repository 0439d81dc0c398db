use Rattle.thy_observe.proofs.CauseLemmas.{causes-add-up}
use Rattle.thy_observe.proofs.causes.causes_add_up.Goals as goal

pub returns : goal.returns
returns g = causes-add-up
