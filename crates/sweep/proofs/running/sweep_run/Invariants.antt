use Rattle.std.proofs.Common.{◌≡◌}
use Rattle.thy_run.specs.Sending.{sinks}
use Rattle.sweep.proofs.KeptLemmas.{IsKeeping}
use Rattle.sweep.specs.Sweeping.{IsSwept}
use Rattle.sweep.proofs.running.sweep_run.Given as goal

-- the run continues, and each row so far is one of it
abbrev pub invariant-loop-done : goal.invariant-loop-done
invariant-loop-done g l =
    let before = sinks (g.T.Sink.stream l.fn.terminal) (g.R.Sink.stream l.fn.report) in
    let now = sinks (g.T.Sink.stream l.terminal) (g.R.Sink.stream l.report) in
    record {
      swept : IsSwept g.M.Computer.kind l.plan (g.N.Nvm.device l.initial.nvm) g.N.OverMemory.levels l.progress (g.N.Nvm.device l.nvm) l.done before now l.room;
      rows : IsKeeping g.M.Computer.kind l.plan (g.N.Nvm.device l.initial.nvm) g.N.OverMemory.levels l.asked l.done l.watch.account (g.N.Nvm.device l.nvm);
      compared : l.watch.beside.compared ≡ l.asked.compared;
    }
