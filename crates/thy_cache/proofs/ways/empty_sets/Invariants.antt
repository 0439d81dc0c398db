use Rattle.std.proofs.Common.{◌≡◌, replicate}
use Rattle.thy_cache.specs.Ways.{empty_ways}
use Rattle.thy_cache.proofs.ways.empty_sets.Given as goal

abbrev pub invariant-loop-set : goal.invariant-loop-set
invariant-loop-set l = l.all.items ≡ replicate l._set (empty_ways l.ways)
