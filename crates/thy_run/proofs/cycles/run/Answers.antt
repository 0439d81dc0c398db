use Rattle.std.proofs.Common.{◌+◌, ◌≤◌, ◌∙◌, [], length, sym, ap, subst, refl, false, arith}
use Rattle.thy_run.specs.declared.ending.Stop.TheVariants.{Memory}
use Rattle.thy_block.specs.Outside.{Stream}
use Rattle.thy_run.specs.declared.ending.Ending.{Ending}
use Rattle.thy_run.specs.declared.progress.Progress.{Progress}
use Rattle.thy_run.specs.declared.quiet.Pause.TheVariants.{Limit, Steps, Stuck}
use Rattle.thy_run.specs.Going.{world_at}
use Rattle.thy_run.specs.Rounds.{Running, RunEndsAt, first_progress}
use Rattle.thy_run.specs.Seeing.{Watched}
use Rattle.thy_run.proofs.QuietLemmas.{IsAt, few_cycles, IsWatched-at, paused_at, Running-then, ends_limit, ends_stuck, HasStepped-then, CanSee-then}
use Rattle.thy_run.proofs.StartLemmas.{Running-first, RunEnds-unpowered, first_of}
use Rattle.thy_run.proofs.SeeingLemmas.{CanSeeCut-awaited, Watched-first, RunEndsSeen-at}
use Rattle.thy_run.proofs.cycles.run.Goals.{in-Goes, in-Cuts+in-Ok-cut_power}
use Rattle.thy_run.proofs.cycles.run.Goals as goal

pub returns-in_default-clause-seen : goal.returns-in_default-clause-seen
returns-in_default-clause-seen g c =
    let K = g.M.Computer.kind in
    let laws = g.met.M.Computer.lawful in
    let plan = c.args.plan.now in
    let n = g.N.Nvm.device c.args.nvm.now in
    let m = (laws.powers plan.geometry).0 in
    RunEndsSeen-at K g.O.Observer.has_seen plan n n
    (record { stop = Memory; events = c.new.result; cycles = 0; terminal_failed = false; report_failed = false })
    (g.T.Sink.stream c.args.terminal.now) (g.T.Sink.stream c.args.terminal.now) (g.R.Sink.stream c.args.report.now)
    (g.R.Sink.stream c.args.report.now)
    (first_progress plan m plan.start.input) n 0 [] c.args.observer.now
    (RunEnds-unpowered K laws plan c.new.result plan.start.input n (g.T.Sink.stream c.args.terminal.now)
    (g.R.Sink.stream c.args.report.now) c.requires.planned c.requires.fitted c.new.ensures)
    refl
    (Watched-first K g.O.Observer.has_seen plan (first_progress plan m plan.start.input) n c.args.observer.now (first_of K laws plan m plan.start.input n c.requires.planned (laws.powers plan.geometry).1 (laws.powers plan.geometry).2 c.requires.fitted) c.requires.unseen)

pub returns-in_default-clause-ran : goal.returns-in_default-clause-ran
returns-in_default-clause-ran g c = (returns-in_default-clause-seen g c).0

pub loop-progress-init : goal.loop-progress-init
loop-progress-init g c =
    let n = g.N.Nvm.device c.args.nvm.now in
    let running = Running-first g.M.Computer.kind g.met.M.Computer.lawful c.args.plan.now c.in-Ok.progress n
    (g.T.Sink.stream c.args.terminal.now) (g.R.Sink.stream c.args.report.now)
    c.requires.planned c.requires.fitted c.in-Ok.ensures in
    record {
      turns = [];
      running = running;
      watched = Watched-first g.M.Computer.kind g.O.Observer.has_seen c.args.plan.now c.in-Ok.progress n c.args.observer.now
          running.goes.ran c.requires.unseen;
      few = omega arith;
    }

pub run_quiet-now-requires-clause-watched : goal.run_quiet-now-requires-clause-watched
run_quiet-now-requires-clause-watched g c = IsWatched-at c.loop-progress.invariant

-- the limit is reached
pub returns-in-Limit-clause-seen : goal.returns-in-Limit-clause-seen
returns-in-Limit-clause-seen g c =
    let x = c.run_quiet-now in
    let here = c.loop-progress.invariant in
    let m = g.N.Nvm.device x.new.nvm in
    ends_limit here x.new.progress m x.result.0 x.new.observer c.requires.planned c.ended_by.result c.ended_by.ensures
    (paused_at here x.new.progress m x.result.0 x.new.observer x.result.1 Limit c.in-Limit.is x.ensures)

pub returns-in-Limit-clause-ran : goal.returns-in-Limit-clause-ran
returns-in-Limit-clause-ran g c = (returns-in-Limit-clause-seen g c).0

-- a step failed
pub returns-in-Stuck-clause-seen : goal.returns-in-Stuck-clause-seen
returns-in-Stuck-clause-seen g c =
    let x = c.run_quiet-now in
    let here = c.loop-progress.invariant in
    let m = g.N.Nvm.device x.new.nvm in
    ends_stuck here x.new.progress m x.result.0 x.new.observer c.ended_by-in-Stuck.result c.ended_by-in-Stuck.ensures
    (paused_at here x.new.progress m x.result.0 x.new.observer x.result.1 Stuck c.in-Stuck.is x.ensures)

pub returns-in-Stuck-clause-ran : goal.returns-in-Stuck-clause-ran
returns-in-Stuck-clause-ran g c = (returns-in-Stuck-clause-seen g c).0

-- a step has something to report
pub report_cycle-requires-clause-stepped : goal.report_cycle-requires-clause-stepped
report_cycle-requires-clause-stepped g c =
    let x = c.run_quiet-now in
    let here = c.loop-progress.invariant in
    let m = g.N.Nvm.device x.new.nvm in
    HasStepped-then here x.new.progress m x.result.0 x.new.observer c.in-Steps.stepped
    (paused_at here x.new.progress m x.result.0 x.new.observer x.result.1 (Steps c.in-Steps.stepped) c.in-Steps.is x.ensures)

pub report_cycle-requires-clause-few : goal.report_cycle-requires-clause-few
report_cycle-requires-clause-few g c =
    let x = c.run_quiet-now in
    (paused_at c.loop-progress.invariant x.new.progress (g.N.Nvm.device x.new.nvm) x.result.0 x.new.observer x.result.1
    (Steps c.in-Steps.stepped) c.in-Steps.is x.ensures).stops.0

pub report_cycle-requires-clause-unseen : goal.report_cycle-requires-clause-unseen
report_cycle-requires-clause-unseen g c =
    let x = c.run_quiet-now in
    let here = c.loop-progress.invariant in
    let m = g.N.Nvm.device x.new.nvm in
    CanSee-then here x.new.progress m x.result.0 x.new.observer c.in-Steps.stepped
    (paused_at here x.new.progress m x.result.0 x.new.observer x.result.1 (Steps c.in-Steps.stepped) c.in-Steps.is x.ensures)

-- the run stops
pub returns-in-Stops-clause-seen : goal.returns-in-Stops-clause-seen
returns-in-Stops-clause-seen g c =
    let K = g.M.Computer.kind in
    let plan = c.args.plan.now in
    let n = g.N.Nvm.device c.args.nvm.now in
    let t0 = g.T.Sink.stream c.args.terminal.now in
    let r0 = g.R.Sink.stream c.args.report.now in
    let x = c.run_quiet-now in
    let why = Steps c.in-Steps.stepped in
    let here = c.loop-progress.invariant in
    let here_m = g.N.Nvm.device x.new.nvm in
    let paused = paused_at here x.new.progress here_m x.result.0 x.new.observer x.result.1 why c.in-Steps.is x.ensures in
    let running = Running-then here x.new.progress here_m x.result.0 x.new.observer why paused in
    let p = paused.progress in
    let m = paused.device in
    let k = x.result.0 in
    let turns = paused.led.turns in
    let made = c.in-Stops.ensures n p m turns t0 r0 paused.stops.1 running paused.led.watched in
    let d = g.N.Nvm.device c.report_cycle.new.nvm in
    let t = g.T.Sink.stream c.report_cycle.new.terminal in
    let r = g.R.Sink.stream c.report_cycle.new.report in
    let q = c.report_cycle.new.progress in
    let P : Ending → Type 0 = λ e. RunEndsAt K plan n d e t0 t r0 r (world_at q d (k + 1) made.after) in
    RunEndsSeen-at K g.O.Observer.has_seen plan n d c.ended_by-in-Stops.result t0 t r0 r q d (k + 1) made.after c.report_cycle.new.observer
    (subst P (sym c.ended_by-in-Stops.ensures) made.comes_to) (ap (λ (e : Ending). e.cycles) c.ended_by-in-Stops.ensures) made.seen

pub returns-in-Stops-clause-ran : goal.returns-in-Stops-clause-ran
returns-in-Stops-clause-ran g c = (returns-in-Stops-clause-seen g c).0

pub returns-in-Breaks-clause-seen : goal.returns-in-Breaks-clause-seen
returns-in-Breaks-clause-seen g c =
    let K = g.M.Computer.kind in
    let plan = c.args.plan.now in
    let n = g.N.Nvm.device c.args.nvm.now in
    let t0 = g.T.Sink.stream c.args.terminal.now in
    let r0 = g.R.Sink.stream c.args.report.now in
    let x = c.run_quiet-now in
    let why = Steps c.in-Steps.stepped in
    let here = c.loop-progress.invariant in
    let here_m = g.N.Nvm.device x.new.nvm in
    let paused = paused_at here x.new.progress here_m x.result.0 x.new.observer x.result.1 why c.in-Steps.is x.ensures in
    let running = Running-then here x.new.progress here_m x.result.0 x.new.observer why paused in
    let p = paused.progress in
    let m = paused.device in
    let k = x.result.0 in
    let turns = paused.led.turns in
    let made = c.in-Breaks.ensures n p m turns t0 r0 paused.stops.1 running paused.led.watched in
    let d = g.N.Nvm.device c.report_cycle.new.nvm in
    let t = g.T.Sink.stream c.report_cycle.new.terminal in
    let r = g.R.Sink.stream c.report_cycle.new.report in
    let P : Ending → Type 0 = λ e. RunEndsAt K plan n d e t0 t r0 r (world_at p m k turns) in
    RunEndsSeen-at K g.O.Observer.has_seen plan n d c.ended_by-in-Breaks.result t0 t r0 r p m k turns c.report_cycle.new.observer
    (subst P (sym c.ended_by-in-Breaks.ensures) made.comes_to) (ap (λ (e : Ending). e.cycles) c.ended_by-in-Breaks.ensures)
    (subst (λ (o : g.row.O.Denot). Watched K g.O.Observer.has_seen plan n p m k turns o) (sym made.seen) paused.led.watched)

pub returns-in-Breaks-clause-ran : goal.returns-in-Breaks-clause-ran
returns-in-Breaks-clause-ran g c = (returns-in-Breaks-clause-seen g c).0

-- a cut falls after the cycle
pub cut_power-requires-clause-awaits : goal.cut_power-requires-clause-awaits
cut_power-requires-clause-awaits g c =
    let K = g.M.Computer.kind in
    let plan = c.args.plan.now in
    let n = g.N.Nvm.device c.args.nvm.now in
    let t0 = g.T.Sink.stream c.args.terminal.now in
    let r0 = g.R.Sink.stream c.args.report.now in
    let x = c.run_quiet-now in
    let why = Steps c.in-Steps.stepped in
    let here = c.loop-progress.invariant in
    let here_m = g.N.Nvm.device x.new.nvm in
    let paused = paused_at here x.new.progress here_m x.result.0 x.new.observer x.result.1 why c.in-Steps.is x.ensures in
    let running = Running-then here x.new.progress here_m x.result.0 x.new.observer why paused in
    let p = paused.progress in
    let m = paused.device in
    let k = x.result.0 in
    let turns = paused.led.turns in
    let made = c.in-Cuts.ensures n p m turns t0 r0 paused.stops.1 running paused.led.watched in
    let T : Stream → Type 0 = λ s. Running K plan n p m k turns t0 s r0 (g.R.Sink.stream c.loop-progress.report) in
    let R : Stream → Type 0 = λ s. Running K plan n p m k turns t0 (g.T.Sink.stream c.report_cycle.new.terminal) r0 s in
    let first = c.len-first.ensures ∙ ap (λ (y : Progress g.row.M.Denot). length y.events) paused.stops.1.same in
    (n, p, m, turns, t0, r0, made.seen.0, subst R (sym made.comes_to.1) (subst T (sym made.comes_to.0) running), made.seen.1, first)

pub cut_power-requires-clause-unseen : goal.cut_power-requires-clause-unseen
cut_power-requires-clause-unseen g c =
    let K = g.M.Computer.kind in
    let plan = c.args.plan.now in
    let n = g.N.Nvm.device c.args.nvm.now in
    let t0 = g.T.Sink.stream c.args.terminal.now in
    let r0 = g.R.Sink.stream c.args.report.now in
    let x = c.run_quiet-now in
    let why = Steps c.in-Steps.stepped in
    let here = c.loop-progress.invariant in
    let here_m = g.N.Nvm.device x.new.nvm in
    let paused = paused_at here x.new.progress here_m x.result.0 x.new.observer x.result.1 why c.in-Steps.is x.ensures in
    let running = Running-then here x.new.progress here_m x.result.0 x.new.observer why paused in
    let p = paused.progress in
    let m = paused.device in
    let k = x.result.0 in
    let turns = paused.led.turns in
    let made = c.in-Cuts.ensures n p m turns t0 r0 paused.stops.1 running paused.led.watched in
    CanSeeCut-awaited K g.O.Observer.has_seen g.O.Observer.keeps plan n p c.report_cycle.new.progress m
    (g.N.Nvm.device c.report_cycle.new.nvm) k turns made.seen.0 c.report_cycle.new.observer made.seen.2

pub returns-in-Err-clause-seen : goal.returns-in-Err-clause-seen
returns-in-Err-clause-seen g c =
    let K = g.M.Computer.kind in
    let plan = c.args.plan.now in
    let n = g.N.Nvm.device c.args.nvm.now in
    let t0 = g.T.Sink.stream c.args.terminal.now in
    let r0 = g.R.Sink.stream c.args.report.now in
    let x = c.run_quiet-now in
    let why = Steps c.in-Steps.stepped in
    let here = c.loop-progress.invariant in
    let here_m = g.N.Nvm.device x.new.nvm in
    let paused = paused_at here x.new.progress here_m x.result.0 x.new.observer x.result.1 why c.in-Steps.is x.ensures in
    let running = Running-then here x.new.progress here_m x.result.0 x.new.observer why paused in
    let p = paused.progress in
    let m = paused.device in
    let k = x.result.0 in
    let turns = paused.led.turns in
    let made = c.in-Cuts.ensures n p m turns t0 r0 paused.stops.1 running paused.led.watched in
    let T : Stream → Type 0 = λ s. Running K plan n p m k turns t0 s r0 (g.R.Sink.stream c.loop-progress.report) in
    let R : Stream → Type 0 = λ s. Running K plan n p m k turns t0 (g.T.Sink.stream c.report_cycle.new.terminal) r0 s in
    let first = c.len-first.ensures ∙ ap (λ (y : Progress g.row.M.Denot). length y.events) paused.stops.1.same in
    c.in-Err.ensures n p m turns t0 r0 made.seen.0
    (subst R (sym made.comes_to.1) (subst T (sym made.comes_to.0) running)) made.seen.2 made.seen.1 first

pub returns-in-Err-clause-ran : goal.returns-in-Err-clause-ran
returns-in-Err-clause-ran g c = (returns-in-Err-clause-seen g c).0

pub cut_power-requires-clause-few : goal.cut_power-requires-clause-few
cut_power-requires-clause-few g c =
    let x = c.run_quiet-now in
    (paused_at c.loop-progress.invariant x.new.progress (g.N.Nvm.device x.new.nvm) x.result.0 x.new.observer x.result.1
    (Steps c.in-Steps.stepped) c.in-Steps.is x.ensures).stops.0

pub overflow_add-now : goal.overflow_add-now
overflow_add-now g c =
    let x = c.run_quiet-now in
    let paused = paused_at c.loop-progress.invariant x.new.progress (g.N.Nvm.device x.new.nvm) x.result.0 x.new.observer x.result.1
    (Steps c.in-Steps.stepped) c.in-Steps.is x.ensures in
    let few = few_cycles c.args.plan.now x.result.0 c.requires.planned paused.stops.0 in
    omega (arith, few)

pub overflow_add-done : goal.overflow_add-done
overflow_add-done g c =
    let x = c.run_quiet-now in
    let paused = paused_at c.loop-progress.invariant x.new.progress (g.N.Nvm.device x.new.nvm) x.result.0 x.new.observer x.result.1
    (Steps c.in-Steps.stepped) c.in-Steps.is x.ensures in
    let few = few_cycles c.args.plan.now x.result.0 c.requires.planned paused.stops.0 in
    omega (arith, few)

pub loop-progress-smaller : goal.loop-progress-smaller
loop-progress-smaller g c =
    let x = c.run_quiet-now in
    let paused = paused_at c.loop-progress.invariant x.new.progress (g.N.Nvm.device x.new.nvm) x.result.0 x.new.observer x.result.1
    (Steps c.in-Steps.stepped) c.in-Steps.is x.ensures in
    let few = paused.stops.0 in
    let more = paused.led.more in
    omega (arith, few, more)

pub loop-progress-preserved : goal.loop-progress-preserved
loop-progress-preserved g c =
    let K = g.M.Computer.kind in
    let plan = c.args.plan.now in
    let n = g.N.Nvm.device c.args.nvm.now in
    let t0 = g.T.Sink.stream c.args.terminal.now in
    let r0 = g.R.Sink.stream c.args.report.now in
    let x = c.run_quiet-now in
    let why = Steps c.in-Steps.stepped in
    let here = c.loop-progress.invariant in
    let here_m = g.N.Nvm.device x.new.nvm in
    let paused = paused_at here x.new.progress here_m x.result.0 x.new.observer x.result.1 why c.in-Steps.is x.ensures in
    let running = Running-then here x.new.progress here_m x.result.0 x.new.observer why paused in
    let p = paused.progress in
    let m = paused.device in
    let k = x.result.0 in
    let turns = paused.led.turns in
    let S = g.O.Observer.has_seen in
    let below = paused.stops.0 in
    let few : k + 1 ≤ plan.geometry.limit = omega (arith, below) in
    let Now : g.row.T.Denot → g.row.R.Denot → g.row.N.Denot → Progress g.row.M.Denot → g.row.O.Denot → Type 0 =
    λ x y z q o. IsAt K S plan n t0 r0 q (g.N.Nvm.device z) (k + 1) (g.T.Sink.stream x) (g.R.Sink.stream y) o in
    let f = c.match-report_cycle in
    elim f.branch [
      | in-Goes w ↦
          let made = w.in-Goes.ensures n p m turns t0 r0 paused.stops.1 running paused.led.watched in
          let y = c.report_cycle.new in
          let h : Now y.terminal y.report y.nvm y.progress y.observer =
          record { turns = made.after; running = made.comes_to; watched = made.seen; few = few } in
          subst (λ x. Now x f.report f.nvm f.progress f.observer) (sym w.terminal-is)
          (subst (λ x. Now y.terminal x f.nvm f.progress f.observer) (sym w.report-is)
          (subst (λ x. Now y.terminal y.report x f.progress f.observer) (sym w.nvm-is)
          (subst (λ x. Now y.terminal y.report y.nvm x f.observer) (sym w.progress-is)
          (subst (λ x. Now y.terminal y.report y.nvm y.progress x) (sym w.observer-is) h))))
      | in-Cuts+in-Ok-cut_power w ↦
          let made = w.in-Cuts.ensures n p m turns t0 r0 paused.stops.1 running paused.led.watched in
          let T : Stream → Type 0 = λ s. Running K plan n p m k turns t0 s r0 (g.R.Sink.stream c.loop-progress.report) in
          let R : Stream → Type 0 = λ s. Running K plan n p m k turns t0 (g.T.Sink.stream c.report_cycle.new.terminal) r0 s in
          let before = subst R (sym made.comes_to.1) (subst T (sym made.comes_to.0) running) in
          let first = c.len-first.ensures ∙ ap (λ (y : Progress g.row.M.Denot). length y.events) paused.stops.1.same in
          let y = w.cut_power.new in
          let q = w.in-Ok-cut_power.next in
          let cut = w.in-Ok-cut_power.ensures n p m turns t0 r0 made.seen.0 before made.seen.2 made.seen.1 first in
          let h : Now y.terminal y.report y.nvm q y.observer =
          record { turns = cut.after; running = cut.running; watched = cut.watched; few = few } in
          subst (λ x. Now x f.report f.nvm f.progress f.observer) (sym w.terminal-is)
          (subst (λ x. Now y.terminal x f.nvm f.progress f.observer) (sym w.report-is)
          (subst (λ x. Now y.terminal y.report x f.progress f.observer) (sym w.nvm-is)
          (subst (λ x. Now y.terminal y.report y.nvm x f.observer) (sym w.progress-is)
          (subst (λ x. Now y.terminal y.report y.nvm q x) (sym w.observer-is) h))))
    ]
