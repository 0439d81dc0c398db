use Rattle.std.proofs.Common.{ℕ, ◌+◌, ◌-◌, List}
use Rattle.thy_block.specs.Device.{Device}
use Rattle.thy_run.specs.Going.{GoesOn}
use Rattle.thy_run.specs.Picks.{after_picks}
use Rattle.thy_run.specs.Seeing.{Watched}
use Rattle.thy_run.proofs.QuietLemmas.{IsInRow}
use Rattle.thy_run.proofs.quiet.pass_row.Given as goal

-- the cycles that were seen are quiet ones of the run, and those that are left lead to the machine; their picks are drawn after them
abbrev pub invariant-loop-seen : goal.invariant-loop-seen
invariant-loop-seen g l =
    let K = g.M.Computer.kind in
    let S = g.O.Observer.has_seen in
    let p = l.fn.progress in
    let n = g.N.Nvm.device l.nvm in
    (fitted : Device) (turns : List ℕ) → GoesOn K l.plan fitted p n l.now turns → Watched K S l.plan fitted p n l.now turns l.fn.observer
    → IsInRow K S l.plan fitted p (record l.progress { mix = after_picks l.plan.geometry.harts l.seen p.mix }) n l.now (l.now + l.seen) (l.moves - l.seen) l.row.retired l.observer
