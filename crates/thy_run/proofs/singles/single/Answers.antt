use Rattle.std.proofs.Common.{◌≡◌, ◌+◌, [], sym, ap, subst, refl}
use Rattle.thy_run.specs.Singles.{SingleMade}
use Rattle.thy_run.proofs.SingleLemmas.{Running-quiet, RunEnds-stuck, cycles_of, cycles_long, none_due}
use Rattle.thy_run.proofs.singles.single.Goals as goal

pub step_next-requires-clause-goes : goal.step_next-requires-clause-goes
step_next-requires-clause-goes g c = let h = c.requires.running in (h.0, h.1, h.4.goes)

-- the step failed
pub returns-in_default : goal.returns-in_default
returns-in_default g c = λ fitted turns t r running.
    RunEnds-stuck g.M.Computer.kind g.met.M.Computer.lawful c.args.plan.now fitted c.args.progress.now c.step_next.new.progress
    (g.N.Nvm.device c.args.nvm.now)
    (g.N.Nvm.device c.step_next.new.nvm) c.args.done turns t (g.T.Sink.stream c.args.terminal.now) r
    (g.R.Sink.stream c.args.report.now) c.requires.planned running
    c.requires.few (c.in_default.ensures fitted turns running.goes)

-- the cycle has nothing to report
pub returns-then-is_quiet : goal.returns-then-is_quiet
returns-then-is_quiet g c = λ fitted turns t r running.
    Running-quiet g.M.Computer.kind g.met.M.Computer.lawful c.args.plan.now fitted c.args.progress.now c.step_next.new.progress
    (g.N.Nvm.device c.args.nvm.now)
    (g.N.Nvm.device c.step_next.new.nvm) c.args.done turns t (g.T.Sink.stream c.args.terminal.now) r
    (g.R.Sink.stream c.args.report.now) c.requires.planned running
    c.in-Some.stepped (c.in-Some.ensures fitted turns running.goes) (c.is_quiet.ensures.0 c.if-is_quiet.true)

-- the cycle has something to report
pub report_cycle-requires-clause-stepped : goal.report_cycle-requires-clause-stepped
report_cycle-requires-clause-stepped g c =
    let h = c.requires.running in
    (h.0, c.args.progress.now, g.N.Nvm.device c.args.nvm.now, h.1, h.4.goes, c.in-Some.ensures h.0 h.1 h.4.goes)

pub report_cycle-requires-clause-unseen : goal.report_cycle-requires-clause-unseen
report_cycle-requires-clause-unseen g c =
    let K = g.M.Computer.kind in
    let h = c.requires.running in
    let p = c.args.progress.now in
    let n = g.N.Nvm.device c.args.nvm.now in
    ((cycles_of K c.args.plan.now h.0 p n c.args.done h.1 h.4.goes).0, tt, cycles_long K c.args.plan.now h.0 p n c.args.done h.1 h.4.goes)

pub returns-in-Goes : goal.returns-in-Goes
returns-in-Goes g c = λ fitted turns t r running.
    let K = g.M.Computer.kind in
    let p = c.args.progress.now in
    let n = g.N.Nvm.device c.args.nvm.now in
    let seen = cycles_of K c.args.plan.now fitted p n c.args.done turns running.goes in
    let made = c.in-Goes.ensures fitted p n turns t r (c.in-Some.ensures fitted turns running.goes) running (seen.0, seen.1, tt) in
    (made.after, made.comes_to, made.by_step)

pub returns-in-Stops : goal.returns-in-Stops
returns-in-Stops g c = λ fitted turns t r running.
    let K = g.M.Computer.kind in
    let p = c.args.progress.now in
    let n = g.N.Nvm.device c.args.nvm.now in
    let seen = cycles_of K c.args.plan.now fitted p n c.args.done turns running.goes in
    (c.in-Stops.ensures fitted p n turns t r (c.in-Some.ensures fitted turns running.goes) running (seen.0, seen.1, tt)).comes_to.0

pub returns-in-Breaks : goal.returns-in-Breaks
returns-in-Breaks g c = λ fitted turns t r running.
    let K = g.M.Computer.kind in
    let p = c.args.progress.now in
    let n = g.N.Nvm.device c.args.nvm.now in
    let seen = cycles_of K c.args.plan.now fitted p n c.args.done turns running.goes in
    (c.in-Breaks.ensures fitted p n turns t r (c.in-Some.ensures fitted turns running.goes) running (seen.0, seen.1, tt)).comes_to.0

-- no cut is listed
pub unreachable-requires : goal.unreachable-requires
unreachable-requires g c =
    let K = g.M.Computer.kind in
    let plan = c.args.plan.now in
    let p = c.args.progress.now in
    let n = g.N.Nvm.device c.args.nvm.now in
    let h = c.requires.running in
    let seen = cycles_of K plan h.0 p n c.args.done h.1 h.4.goes in
    let made = c.in-Cuts.ensures h.0 p n h.1 h.2 h.3 (c.in-Some.ensures h.0 h.1 h.4.goes) h.4 (seen.0, seen.1, tt) in
    none_due plan.config.cuts c.report_cycle.new.progress.passed (c.args.done + 1) c.requires.uncut made.seen.1.due
