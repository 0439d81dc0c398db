use Rattle.std.proofs.Common.{◌≡◌, take}
use Rattle.sweep.proofs.account.keep_queue.Given as goal

-- the writes so far are kept
abbrev pub invariant-loop-i : goal.invariant-loop-i
invariant-loop-i g l = l.queue.items ≡ take l.i (g.N.Nvm.device l.nvm).queue
