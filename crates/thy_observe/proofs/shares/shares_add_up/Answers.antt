use Rattle.thy_observe.proofs.ShareLemmas.{shares-add-up}
use Rattle.thy_observe.proofs.shares.shares_add_up.Goals as goal

pub returns : goal.returns
returns g = shares-add-up
