use Rattle.std.proofs.Common.{◌≡◌, ◌++◌, take}
use Rattle.std.specs.List.{flat_map}
use Rattle.thy_observe.specs.Accesses.{access_of}
use Rattle.thy_observe.proofs.accesses.add_calls.Given as goal

abbrev pub invariant-loop-call : goal.invariant-loop-call
invariant-loop-call l = l.rows.items ≡ l.fn.rows.items ++ flat_map (access_of l.cycle l.cause) (take l.call-index l.calls)
