use Rattle.std.proofs.Common.{ℕ, List, [], sym, ◌∙◌, take}
use Rattle.std.specs.Prelude.{◌≢◌}
use Rattle.thy_block.specs.Outside.{Took, TookPart}
use Rattle.thy_text.specs.Lines.{line_of, report_of}
use Rattle.thy_text.specs.Seen.{event_of}
use Rattle.thy_run.proofs.ReportLemmas.{at_err, at_ok, lines_more, lines_failed}
use Rattle.thy_run.proofs.write_report.write_lines.Goals as goal

pub returns-then-is_err-clause-lines : goal.returns-then-is_err-clause-lines
returns-then-is_err-clause-lines g c =
    let line : List ℕ = line_of c.args.reporting (event_of c.get.result.now) in
    lines_failed c.args.reporting c.args.events.now c.loop-i.i (event_of c.get.result.now)
    (report_of c.args.reporting (take c.args.first c.args.events.now))
    (g.R.Sink.stream c.args.report.now) (g.R.Sink.stream c.loop-i.report) (g.R.Sink.stream c.write_event.new.report) c.get.ensures c.loop-i.invariant
    (at_err c.write_event.result (TookPart (g.R.Sink.stream c.loop-i.report) (g.R.Sink.stream c.write_event.new.report) line)
    c.write_event.ensures.wrote.failed (sym c.is_err.ensures.value ∙ c.if-is_err.true))
    (at_err c.write_event.result (line ≢ []) c.write_event.ensures.due (sym c.is_err.ensures.value ∙ c.if-is_err.true))

pub loop-i-preserved : goal.loop-i-preserved
loop-i-preserved g c =
    lines_more c.args.reporting c.args.events.now c.loop-i.i (event_of c.get.result.now)
    (report_of c.args.reporting (take c.args.first c.args.events.now))
    (g.R.Sink.stream c.args.report.now) (g.R.Sink.stream c.loop-i.report) (g.R.Sink.stream c.write_event.new.report) c.get.ensures c.loop-i.invariant
    (at_ok c.write_event.result (Took (g.R.Sink.stream c.loop-i.report) (g.R.Sink.stream c.write_event.new.report) (line_of c.args.reporting
    (event_of c.get.result.now))) c.write_event.ensures.wrote.whole (sym c.is_err.ensures.value ∙ c.if-is_err.false))
