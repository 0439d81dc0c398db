use Rattle.std.proofs.Common.{◌≡◌, ◌+◌, ◌-◌, ◌∙◌, ◌&&◌, ◌==◌, ℕ, None, false, nat_lt, length, take, refl, sym, ap, subst, arith}
use Rattle.std.specs.Prelude.{slice_index}
use Rattle.thy_block.specs.Bytes.{bytes_of}
use Rattle.thy_text.specs.Lines.{report_of}
use Rattle.thy_run.specs.declared.progress.Progress.{Progress}
use Rattle.thy_run.specs.Going.{turns_then, reporting_of}
use Rattle.thy_run.specs.Sending.{Sent, Sends}
use Rattle.thy_run.proofs.AdvanceLemmas.{few_released, noted_ready, broken_ready, more_noted, more_broken, awaits_cut, done_going, done_ended, done_noted, is_none, not_none}
use Rattle.thy_run.proofs.OutcomeLemmas.{ends_unheard, ends_finished, Running-done, ComesTo-short}
use Rattle.thy_run.proofs.SeeingLemmas.{Awaited-kept, Watched-done}
use Rattle.thy_run.proofs.advance.conclude.Goals.{else-is_none-via-then-is_none+else-is_due, else-is_none-via-else-is_none}
use Rattle.thy_run.proofs.advance.conclude.Goals as goal

pub overflow_add-progress : goal.overflow_add-progress
overflow_add-progress g c =
    let h = c.requires.gathered in
    let few = few_released g.M.Computer.kind g.met.M.Computer.lawful c.args.plan.now h.0 h.1 h.2 h.4 h.5 c.requires.planned h.6.goes
    c.args.progress.now h.3 c.args.stepped.now h.6.stepped
    (bytes_of c.args.readings.bytes) h.6.gathered.bytes in
    omega (arith, few, c.len.ensures)

-- there are no fewer events than before
pub write_lines-progress-requires : goal.write_lines-progress-requires
write_lines-progress-requires g c =
    let h = c.requires.gathered in
    let more = more_broken g.M.Computer.kind g.met.M.Computer.lawful c.args.plan.now h.0 h.1 c.args.progress.now h.2 h.3 h.4 h.5
    c.args.stepped.now c.args.readings c.args.cycle c.requires.planned h.6
    c.note.new.events c.in_default.ensures.err in
    omega (arith, more, c.len-first.ensures)

pub overflow_sub-len : goal.overflow_sub-len
overflow_sub-len g c =
    let h = c.requires.gathered in
    let more = more_noted g.M.Computer.kind g.met.M.Computer.lawful c.args.plan.now h.0 h.1 c.args.progress.now h.2 h.3 h.4 h.5
    c.args.stepped.now c.args.readings c.args.cycle c.requires.planned h.6
    c.note.new.events c.in-Ok.ensures.ok in
    omega (arith, more, c.len-first.ensures, c.len-2.ensures)

pub write_report-failures-requires : goal.write_report-failures-requires
write_report-failures-requires g c =
    let h = c.requires.gathered in
    let more = more_noted g.M.Computer.kind g.met.M.Computer.lawful c.args.plan.now h.0 h.1 c.args.progress.now h.2 h.3 h.4 h.5
    c.args.stepped.now c.args.readings c.args.cycle c.requires.planned h.6
    c.note.new.events c.in-Ok.ensures.ok in
    omega (arith, more, c.len-first.ensures)

-- memory ran out
pub returns-in_default : goal.returns-in_default
returns-in_default g c = λ fitted p n m k turns t u ready running w.
    let K = g.M.Computer.kind in
    let plan = c.args.plan.now in
    let q = c.args.progress.now in
    let e = c.note.new.events in
    let r1 = g.R.Sink.stream c.args.report.now in
    let r2 = g.R.Sink.stream c.write_lines-progress.new.report in
    let report_failed = c.write_lines-progress.result in
    let first : c.len-first.result ≡ length p.events = c.len-first.ensures ∙ ap (λ y. length y.events) ready.stepped.same in
    let L : ℕ → Type 0 = λ i. Sends (report_of (reporting_of plan) (take i e)) (report_of (reporting_of plan) e) report_failed r1 r2 in
    record {
      after = turns;
      comes_to = ComesTo-short K plan fitted p (record q { events = e }) n m k turns turns report_failed t
          (g.T.Sink.stream c.args.terminal.now) u r1 r2 running ready.few
          (subst L first c.write_lines-progress.ensures.lines) (λ same. c.write_lines-progress.ensures.none (first ∙ ap length (sym same)))
          (broken_ready K g.met.M.Computer.lawful plan fitted p q n m k turns c.args.stepped.now c.args.readings c.args.cycle
          c.requires.planned ready e c.in_default.ensures.err);
      seen = refl;
      by_step = tt;
    }

-- a cut falls after the cycle
pub returns-then-is_due : goal.returns-then-is_due
returns-then-is_due g c = λ fitted p n m k turns t u ready running w.
    let K = g.M.Computer.kind in
    let laws = g.met.M.Computer.lawful in
    let plan = c.args.plan.now in
    let q = c.args.progress.now in
    let r = c.args.stepped.now in
    let e = c.note.new.events in
    let ended = c.in-Ok.ended in
    let q' : Progress g.row.M.Denot = record q { events = e; released = q.released + c.len.result; fresh = false; turns = c.end_list.new.turns } in
    let noted = noted_ready K laws plan fitted p q n m k turns r c.args.readings c.args.cycle c.requires.planned ready ended e
    c.len.result c.end_list.new.turns
    c.in-Ok.ensures.ok c.in-Ok.ensures.status c.len.ensures c.end_list.ensures.turns c.end_list.ensures.room in
    record {
      after = turns;
      comes_to = (refl, refl);
      seen = (
        r,
        awaits_cut K laws plan p q' n m k turns r ended (bytes_of c.args.readings.bytes) noted
            (is_none ended c.is_none.result c.is_none.ensures c.if-is_none.true) c.args.cycle ready.at_cycle
            (sym c.is_due.ensures ∙ c.if-is_due.true),
        Awaited-kept K g.O.Observer.has_seen g.O.Observer.keeps plan fitted p q' n m k turns r c.args.observer.now c.keep.new.self w c.keep.ensures,
      );
      by_step = tt;
    }

-- a sink failed
pub returns-in-Some : goal.returns-in-Some
returns-in-Some g c = λ fitted p n m k turns t u ready running w.
    let K = g.M.Computer.kind in
    let laws = g.met.M.Computer.lawful in
    let S = g.O.Observer.has_seen in
    let plan = c.args.plan.now in
    let q = c.args.progress.now in
    let r = c.args.stepped.now in
    let bytes = bytes_of c.args.readings.bytes in
    let e = c.note.new.events in
    let ended = c.in-Ok.ended in
    let t1 = g.T.Sink.stream c.args.terminal.now in
    let t2 = g.T.Sink.stream c.write_report-failures.new.terminal in
    let r1 = g.R.Sink.stream c.args.report.now in
    let r2 = g.R.Sink.stream c.write_report-failures.new.report in
    let terminal_failed = c.write_report-failures.result.terminal in
    let report_failed = c.write_report-failures.result.report in
    let after = turns_then plan turns r.did in
    let first : c.len-first.result ≡ length p.events = c.len-first.ensures ∙ ap (λ y. length y.events) ready.stepped.same in
    let q' : Progress g.row.M.Denot = record q { events = e; released = q.released + c.len.result; fresh = false; turns = c.end_list.new.turns } in
    let noted = noted_ready K laws plan fitted p q n m k turns r c.args.readings c.args.cycle c.requires.planned ready ended e
    c.len.result c.end_list.new.turns
    c.in-Ok.ensures.ok c.in-Ok.ensures.status c.len.ensures c.end_list.ensures.turns c.end_list.ensures.room in
    let L : ℕ → Type 0 = λ i. Sends (report_of (reporting_of plan) (take i e)) (report_of (reporting_of plan) e) report_failed r1 r2 in
    let sent = subst (Sent terminal_failed t1 t2) c.as_slice.ensures c.write_report-failures.ensures.terminal in
    let lines = subst L first c.write_report-failures.ensures.report in
    let many : c.len-2.result - c.len-first.result ≡ length e - length p.events =
    ap (λ l. l - c.len-first.result) c.len-2.ensures ∙ ap (λ f. length e - f) first in
    let undue : ended ≡ None → (nat_lt q.passed (length plan.config.cuts) && slice_index plan.config.cuts q.passed == c.args.cycle) ≡ false = λ none.
    elim c.else-is_none.branch [
      | else-is_none-via-then-is_none+else-is_due w ↦ sym w.is_due.ensures ∙ w.if-is_due.false
      | else-is_none-via-else-is_none w ↦ absurd (not_none c.in-Ok.ended c.is_none.result c.is_none.ensures w.if-is_none.false none)
    ] in
    let done = done_noted K laws plan p q' n m k turns r ended bytes noted c.args.cycle ready.at_cycle undue in
    record {
      after = after;
      comes_to = ends_unheard K plan fitted p q' n m k turns after r false bytes terminal_failed report_failed t t1 t2 u r1 r2 running
          ready.few sent lines done c.in-Some.stop (sym c.in-Some.ensures);
      seen = Watched-done K S plan fitted p q' n m k turns after r false bytes
          (c.len-2.result - c.len-first.result) c.args.observer.now c.see.new.self done many w c.see.ensures;
      by_step = (done.cycle, done.by_step, done.has_fallen);
    }

-- the program has ended
pub returns-in-Some-ended : goal.returns-in-Some-ended
returns-in-Some-ended g c = λ fitted p n m k turns t u ready running w.
    let K = g.M.Computer.kind in
    let laws = g.met.M.Computer.lawful in
    let S = g.O.Observer.has_seen in
    let plan = c.args.plan.now in
    let q = c.args.progress.now in
    let r = c.args.stepped.now in
    let bytes = bytes_of c.args.readings.bytes in
    let e = c.note.new.events in
    let ended = c.in-Ok.ended in
    let t1 = g.T.Sink.stream c.args.terminal.now in
    let t2 = g.T.Sink.stream c.write_report-failures.new.terminal in
    let r1 = g.R.Sink.stream c.args.report.now in
    let r2 = g.R.Sink.stream c.write_report-failures.new.report in
    let terminal_failed = c.write_report-failures.result.terminal in
    let report_failed = c.write_report-failures.result.report in
    let after = turns_then plan turns r.did in
    let first : c.len-first.result ≡ length p.events = c.len-first.ensures ∙ ap (λ y. length y.events) ready.stepped.same in
    let q' : Progress g.row.M.Denot = record q { events = e; released = q.released + c.len.result; fresh = false; turns = c.end_list.new.turns } in
    let noted = noted_ready K laws plan fitted p q n m k turns r c.args.readings c.args.cycle c.requires.planned ready ended e
    c.len.result c.end_list.new.turns
    c.in-Ok.ensures.ok c.in-Ok.ensures.status c.len.ensures c.end_list.ensures.turns c.end_list.ensures.room in
    let L : ℕ → Type 0 = λ i. Sends (report_of (reporting_of plan) (take i e)) (report_of (reporting_of plan) e) report_failed r1 r2 in
    let sent = subst (Sent terminal_failed t1 t2) c.as_slice.ensures c.write_report-failures.ensures.terminal in
    let lines = subst L first c.write_report-failures.ensures.report in
    let many : c.len-2.result - c.len-first.result ≡ length e - length p.events =
    ap (λ l. l - c.len-first.result) c.len-2.ensures ∙ ap (λ f. length e - f) first in
    let done = done_ended K laws plan p q' n m k turns r ended bytes noted c.in-Some-ended.status c.in-Some-ended.is in
    record {
      after = after;
      comes_to = ends_finished K plan fitted p q' n m k turns r bytes c.in-Some-ended.status terminal_failed report_failed t t1 t2 u r1 r2
          running ready.few sent lines done (sym c.in_default-stop.ensures);
      seen = Watched-done K S plan fitted p q' n m k turns after r false bytes
          (c.len-2.result - c.len-first.result) c.args.observer.now c.see.new.self done.0 many w c.see.ensures;
      by_step = (done.0.cycle, done.0.by_step, done.0.has_fallen);
    }

-- the run continues
pub returns : goal.returns
returns g c = λ fitted p n m k turns t u ready running w.
    let K = g.M.Computer.kind in
    let laws = g.met.M.Computer.lawful in
    let S = g.O.Observer.has_seen in
    let plan = c.args.plan.now in
    let q = c.args.progress.now in
    let r = c.args.stepped.now in
    let bytes = bytes_of c.args.readings.bytes in
    let e = c.note.new.events in
    let ended = c.in-Ok.ended in
    let t1 = g.T.Sink.stream c.args.terminal.now in
    let t2 = g.T.Sink.stream c.write_report-failures.new.terminal in
    let r1 = g.R.Sink.stream c.args.report.now in
    let r2 = g.R.Sink.stream c.write_report-failures.new.report in
    let terminal_failed = c.write_report-failures.result.terminal in
    let report_failed = c.write_report-failures.result.report in
    let after = turns_then plan turns r.did in
    let first : c.len-first.result ≡ length p.events = c.len-first.ensures ∙ ap (λ y. length y.events) ready.stepped.same in
    let q' : Progress g.row.M.Denot = record q { events = e; released = q.released + c.len.result; fresh = false; turns = c.end_list.new.turns } in
    let noted = noted_ready K laws plan fitted p q n m k turns r c.args.readings c.args.cycle c.requires.planned ready ended e
    c.len.result c.end_list.new.turns
    c.in-Ok.ensures.ok c.in-Ok.ensures.status c.len.ensures c.end_list.ensures.turns c.end_list.ensures.room in
    let L : ℕ → Type 0 = λ i. Sends (report_of (reporting_of plan) (take i e)) (report_of (reporting_of plan) e) report_failed r1 r2 in
    let sent = subst (Sent terminal_failed t1 t2) c.as_slice.ensures c.write_report-failures.ensures.terminal in
    let lines = subst L first c.write_report-failures.ensures.report in
    let many : c.len-2.result - c.len-first.result ≡ length e - length p.events =
    ap (λ l. l - c.len-first.result) c.len-2.ensures ∙ ap (λ f. length e - f) first in
    let undue : ended ≡ None → (nat_lt q.passed (length plan.config.cuts) && slice_index plan.config.cuts q.passed == c.args.cycle) ≡ false = λ none.
    elim c.else-is_none.branch [
      | else-is_none-via-then-is_none+else-is_due w ↦ sym w.is_due.ensures ∙ w.if-is_due.false
      | else-is_none-via-else-is_none w ↦ absurd (not_none c.in-Ok.ended c.is_none.result c.is_none.ensures w.if-is_none.false none)
    ] in
    let done = done_going K laws plan p q' n m k turns r ended bytes noted c.in-None.is c.args.cycle ready.at_cycle (undue c.in-None.is) in
    record {
      after = after;
      comes_to = Running-done K plan fitted p q' n m k turns after r false bytes terminal_failed report_failed t t1 t2 u r1 r2 running
          ready.few sent lines done (sym c.in_default-stop.ensures);
      seen = Watched-done K S plan fitted p q' n m k turns after r false bytes
          (c.len-2.result - c.len-first.result) c.args.observer.now c.see.new.self done.0 many w c.see.ensures;
      by_step = (done.0.cycle, done.0.by_step, done.0.has_fallen);
    }
