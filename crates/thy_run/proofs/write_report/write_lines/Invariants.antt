use Rattle.std.proofs.Common.{false, take}
use Rattle.thy_text.specs.Lines.{report_of}
use Rattle.thy_run.specs.Sending.{Sends}
use Rattle.thy_run.proofs.write_report.write_lines.Given as goal

abbrev pub invariant-loop-i : goal.invariant-loop-i
invariant-loop-i g l =
    Sends (report_of l.reporting (take l.first l.events)) (report_of l.reporting (take l.i l.events)) false (g.R.Sink.stream l.fn.report)
    (g.R.Sink.stream l.report)
