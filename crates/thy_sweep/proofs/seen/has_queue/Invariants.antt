use Rattle.std.proofs.Common.{◌≡◌, take}
use Rattle.thy_sweep.proofs.seen.has_queue.Given as goal

-- the writes so far are the same
abbrev pub invariant-loop-i : goal.invariant-loop-i
invariant-loop-i g l = take l.i (g.N.Nvm.device l.nvm).queue ≡ take l.i l.queue
