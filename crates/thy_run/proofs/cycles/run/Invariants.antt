use Rattle.std.proofs.Common.{◌-◌}
use Rattle.thy_run.proofs.QuietLemmas.{IsAt}
use Rattle.thy_run.proofs.cycles.run.Given as goal

-- the run continues
abbrev pub invariant-loop-progress : goal.invariant-loop-progress
invariant-loop-progress g l =
    IsAt g.M.Computer.kind g.O.Observer.has_seen l.plan (g.N.Nvm.device l.fn.nvm) (g.T.Sink.stream l.fn.terminal) (g.R.Sink.stream l.fn.report)
    l.progress (g.N.Nvm.device l.nvm) l.done (g.T.Sink.stream l.terminal) (g.R.Sink.stream l.report) l.observer

abbrev pub decreases-loop-progress : goal.decreases-loop-progress
decreases-loop-progress g l = l.plan.geometry.limit - l.done
