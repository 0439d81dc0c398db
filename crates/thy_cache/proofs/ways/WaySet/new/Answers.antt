use Rattle.thy_cache.proofs.WaysLemmas.{AreSoundWays-empty}
use Rattle.thy_cache.proofs.ways.WaySet.new.Goals as goal

pub invariant_of-result : goal.invariant_of-result
invariant_of-result c = AreSoundWays-empty c.args.ways _ _ c.requires c.in_ok-lines.ensures c.in_ok-order.ensures
