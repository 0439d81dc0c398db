use Rattle.std.proofs.Common.{◌≡◌}
use Rattle.sweep.proofs.running.Watch.follow.Given as goal

-- what a sweep comes to stays as it was, and what is compared
abbrev pub invariant-loop-i : goal.invariant-loop-i
invariant-loop-i l = record {
  account : l.self.account ≡ l.fn.self.account;
  compared : l.self.beside.compared ≡ l.fn.self.beside.compared;
}
