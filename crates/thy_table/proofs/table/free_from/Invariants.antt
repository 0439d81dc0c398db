use Rattle.std.proofs.Common.{◌≡◌, ℕ, ◌<◌, ◌≤◌, false, None, is_none, get_or}
use Rattle.thy_table.proofs.table.free_from.Given as goal

abbrev pub invariant-loop-i : goal.invariant-loop-i
invariant-loop-i g l = (k : ℕ) → l.fn.from ≤ k → k < l.i → is_none (get_or l.entries k None) ≡ false
