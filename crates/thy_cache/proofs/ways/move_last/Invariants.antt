use Rattle.std.proofs.Common.{◌≡◌, ◌++◌, take, drop}
use Rattle.std.specs.List.{remove}
use Rattle.thy_cache.proofs.ways.move_last.Given as goal

-- the ways before this place stand as they will, and the others as they stood
abbrev pub invariant-loop-k : goal.invariant-loop-k
invariant-loop-k l = l.order.items ≡ take l.k (remove l.initial.order.items l.fn.at) ++ drop l.k l.initial.order.items
