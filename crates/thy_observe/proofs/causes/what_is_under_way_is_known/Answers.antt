use Rattle.thy_observe.proofs.UnderWayLemmas.{knows-under-way}
use Rattle.thy_observe.proofs.causes.what_is_under_way_is_known.Goals as goal

pub returns : goal.returns
returns g c = knows-under-way g.M.Computer.kind
