use Rattle.std.proofs.Common.{◌≡◌, ◌≢◌, ℕ, ◌+◌, ◌*◌, ◌<◌, false, None, get_or}
use Rattle.thy_table.specs.Listing.{lists}
use Rattle.thy_table.proofs.table.leader_without.Given as goal

abbrev pub invariant-loop-k : goal.invariant-loop-k
invariant-loop-k g l = (k : ℕ) → k < l.k → get_or l.fn.places k 0 ≢ l.fn.place
    → lists g.E.Keyed.key (16 * l.fn.group + k) (get_or l.fn.entries (get_or l.fn.places k 0) None) ≡ false
