use Rattle.std.proofs.Common.{ℕ, ◌≤◌, ◌-◌, List}
use Rattle.thy_block.specs.Device.{Device}
use Rattle.thy_run.specs.Going.{GoesOn}
use Rattle.thy_run.specs.Quiet.{IsLed}
use Rattle.thy_run.specs.Seeing.{Watched}
use Rattle.thy_run.proofs.quiet.run_quiet.Given as goal

-- the cycles so far were quiet, from each run that continues at the first of them
abbrev pub invariant-loop-now : goal.invariant-loop-now
invariant-loop-now g l =
    let K = g.M.Computer.kind in
    let S = g.O.Observer.has_seen in
    let p = l.fn.progress in
    let n = g.N.Nvm.device l.fn.nvm in
    record {
      led : (fitted : Device) (turns : List ℕ) → GoesOn K l.plan fitted p n l.done turns
          → Watched K S l.plan fitted p n l.done turns l.fn.observer
          → IsLed K S l.plan fitted p l.progress (g.N.Nvm.device l.nvm) l.done l.now l.observer;
      few : l.now ≤ l.plan.geometry.limit;
    }

abbrev pub decreases-loop-now : goal.decreases-loop-now
decreases-loop-now g l = l.limit - l.now
