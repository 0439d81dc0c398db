use Rattle.std.proofs.Common.{◌≡◌, ℕ, ◌<◌, ◌≤◌, false, None, get_or}
use Rattle.thy_table.specs.Listing.{passes}
use Rattle.thy_table.proofs.table.Table.next.Given as goal

abbrev pub invariant-loop-i : goal.invariant-loop-i
invariant-loop-i g l = (k : ℕ) → l.fn.from ≤ k → k < l.i → passes (g.T.Test.holds l.test) (get_or l.self-inside.entries.items k None) ≡ false
