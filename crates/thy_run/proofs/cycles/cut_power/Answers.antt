use Rattle.std.proofs.Common.{◌∙◌, sym, ap, subst, refl, ◌+◌, ◌-◌, ℕ, take, length, List}
use Rattle.thy_block.specs.Bytes.{bytes_of}
use Rattle.thy_block.specs.Device.{Device}
use Rattle.thy_text.specs.Event.{Event}
use Rattle.thy_text.specs.Lines.{report_of}
use Rattle.thy_run.specs.declared.ending.Ending.{Ending}
use Rattle.thy_run.specs.declared.ending.Stop.TheVariants.{Memory}
use Rattle.thy_run.specs.Sending.{Sent, Sends}
use Rattle.thy_run.specs.Going.{turns_then, world_at, reporting_of}
use Rattle.thy_run.specs.Rounds.{RunEndsAt}
use Rattle.thy_run.proofs.AdvanceLemmas.{cut_turns, can_cut}
use Rattle.thy_run.proofs.OutcomeLemmas.{ends_cut, Running-cut, RunEnds-uncut}
use Rattle.thy_run.proofs.SeeingLemmas.{RunEndsSeen-at, Watched-cut, Watched-forgotten}
use Rattle.thy_run.proofs.cycles.cut_power.Goals as goal

pub cut-requires : goal.cut-requires
cut-requires g c =
    let h = c.requires.awaits in
    can_cut g.M.Computer.kind g.met.M.Computer.lawful c.args.plan.now h.1 c.args.progress h.2
    (g.N.Nvm.device c.args.nvm.now) c.args.done h.3 h.6 _ (bytes_of c.args.bytes) h.8.noted
    h.0 (c.args.done + 1) c.requires.planned h.7.goes h.8.due

pub returns-in-Err : goal.returns-in-Err
returns-in-Err g c = λ fitted p n turns t r step running w awaits first.
    let K = g.M.Computer.kind in
    let plan = c.args.plan.now in
    let q = c.args.progress in
    let m = g.N.Nvm.device c.args.nvm.now in
    let t1 = g.T.Sink.stream c.args.terminal.now in
    let t2 = g.T.Sink.stream c.write_report-failures.new.terminal in
    let r1 = g.R.Sink.stream c.args.report.now in
    let r2 = g.R.Sink.stream c.write_report-failures.new.report in
    let terminal_failed = c.write_report-failures.result.terminal in
    let report_failed = c.write_report-failures.result.report in
    let L : ℕ → Type 0 = λ k. Sends (report_of (reporting_of plan) (take k c.in-Err.events))
    (report_of (reporting_of plan) c.in-Err.events) report_failed r1 r2 in
    let Q : List Event → Type 0 =
    λ vs. Sends (report_of (reporting_of plan) (take (length p.events) vs)) (report_of (reporting_of plan) vs) report_failed r1 r2 in
    let E : List Event → Type 0 = λ vs. RunEndsAt K plan fitted m
    (record { stop = Memory; events = vs; cycles = c.args.done; terminal_failed = terminal_failed; report_failed = report_failed }) t t2
    r r2 (world_at p n c.args.done turns) in
    let D : Device → Type 0 = λ d. RunEndsAt K plan fitted d (record {
      stop = Memory;
      events = c.in-Err.events;
      cycles = c.args.done;
      terminal_failed = terminal_failed;
      report_failed = report_failed;
    }) t t2 r r2 (world_at p n c.args.done turns) in
    RunEndsSeen-at K g.O.Observer.has_seen plan fitted (g.N.Nvm.device c.cut.new.nvm) (record {
      stop = Memory;
      events = c.in-Err.events;
      cycles = c.args.done;
      terminal_failed = terminal_failed;
      report_failed = report_failed;
    }) t t2 r r2 p n c.args.done turns c.forget.new.self
    (subst D (sym c.in-Err.ensures.same)
    (subst E (sym c.in-Err.ensures.events)
    (RunEnds-uncut K g.met.M.Computer.lawful plan fitted p q n m c.args.done turns step
    (bytes_of c.args.bytes) terminal_failed report_failed t t1 t2 r r1 r2 running c.requires.few
    (subst (Sent terminal_failed t1 t2) c.as_slice.ensures c.write_report-failures.ensures.terminal) awaits
    (λ none. c.write_report-failures.ensures.on_terminal (c.as_slice.ensures ∙ none))
    (λ same. c.write_report-failures.ensures.on_report (first ∙ ap length (sym (c.in-Err.ensures.events ∙ same))))
    (subst Q c.in-Err.ensures.events (subst L first c.write_report-failures.ensures.report))))) refl
    (Watched-forgotten K g.O.Observer.has_seen g.O.Observer.keeps plan fitted p q n m c.args.done turns step c.args.observer.now
    c.forget.new.self w c.forget.ensures)

-- a sink failed
pub returns-in-Some : goal.returns-in-Some
returns-in-Some g c = λ fitted p n turns t r step running w awaits first.
    let K = g.M.Computer.kind in
    let laws = g.met.M.Computer.lawful in
    let S = g.O.Observer.has_seen in
    let plan = c.args.plan.now in
    let k = c.args.done in
    let q = c.args.progress in
    let next = c.in-Ok.next in
    let bytes = bytes_of c.args.bytes in
    let m = g.N.Nvm.device c.args.nvm.now in
    let m2 = g.N.Nvm.device c.cut.new.nvm in
    let t1 = g.T.Sink.stream c.args.terminal.now in
    let t2 = g.T.Sink.stream c.write_report-failures-2.new.terminal in
    let r1 = g.R.Sink.stream c.args.report.now in
    let r2 = g.R.Sink.stream c.write_report-failures-2.new.report in
    let terminal_failed = c.write_report-failures-2.result.terminal in
    let report_failed = c.write_report-failures-2.result.report in
    let after = cut_turns K plan (turns_then plan turns step.did) m2 in
    let L : ℕ → Type 0 = λ i. Sends (report_of (reporting_of plan) (take i next.events))
    (report_of (reporting_of plan) next.events) report_failed r1 r2 in
    let sent = subst (Sent terminal_failed t1 t2) c.as_slice-2.ensures c.write_report-failures-2.ensures.terminal in
    let lines = subst L first c.write_report-failures-2.ensures.report in
    let watched = Watched-cut K laws S g.O.Observer.keeps plan fitted p q next n m m2 k turns step bytes
    (c.len.result - c.args.first) c.args.first c.len.result c.args.observer.now c.see_cut.new.self
    awaits c.in-Ok.ensures.ok refl c.len.ensures first w c.see_cut.ensures in
    let E : Ending → Type 0 = λ e. RunEndsAt K plan fitted m2 e t t2 r r2 (world_at next m2 (k + 1) after) in
    RunEndsSeen-at K S plan fitted m2 c.ended_by.result t t2 r r2 next m2 (k + 1) after c.see_cut.new.self
    (subst E (sym c.ended_by.ensures)
    (ends_cut K laws plan fitted p q n m k turns step bytes terminal_failed report_failed t t1 t2 r r1 r2 running c.requires.few sent awaits next m2 c.in-Ok.ensures.ok lines c.in-Some.stop (sym c.in-Some.ensures)))
    (ap (λ (e : Ending). e.cycles) c.ended_by.ensures) watched

-- the run continues
pub returns : goal.returns
returns g c = λ fitted p n turns t r step running w awaits first.
    let K = g.M.Computer.kind in
    let laws = g.met.M.Computer.lawful in
    let S = g.O.Observer.has_seen in
    let plan = c.args.plan.now in
    let k = c.args.done in
    let q = c.args.progress in
    let next = c.in-Ok.next in
    let bytes = bytes_of c.args.bytes in
    let m = g.N.Nvm.device c.args.nvm.now in
    let m2 = g.N.Nvm.device c.cut.new.nvm in
    let t1 = g.T.Sink.stream c.args.terminal.now in
    let t2 = g.T.Sink.stream c.write_report-failures-2.new.terminal in
    let r1 = g.R.Sink.stream c.args.report.now in
    let r2 = g.R.Sink.stream c.write_report-failures-2.new.report in
    let terminal_failed = c.write_report-failures-2.result.terminal in
    let report_failed = c.write_report-failures-2.result.report in
    let after = cut_turns K plan (turns_then plan turns step.did) m2 in
    let L : ℕ → Type 0 = λ i. Sends (report_of (reporting_of plan) (take i next.events))
    (report_of (reporting_of plan) next.events) report_failed r1 r2 in
    let sent = subst (Sent terminal_failed t1 t2) c.as_slice-2.ensures c.write_report-failures-2.ensures.terminal in
    let lines = subst L first c.write_report-failures-2.ensures.report in
    let watched = Watched-cut K laws S g.O.Observer.keeps plan fitted p q next n m m2 k turns step bytes
    (c.len.result - c.args.first) c.args.first c.len.result c.args.observer.now c.see_cut.new.self
    awaits c.in-Ok.ensures.ok refl c.len.ensures first w c.see_cut.ensures in
    record {
      after = after;
      running = Running-cut K laws plan fitted p q n m k turns step bytes terminal_failed report_failed t t1 t2 r r1 r2 running
          c.requires.few sent awaits next m2 c.in-Ok.ensures.ok lines (sym c.in-None.ensures);
      watched = watched;
    }
