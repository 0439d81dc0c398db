use Rattle.std.proofs.Common.{sym, subst}
use Rattle.thy_run.specs.Sending.{Sent}
use Rattle.thy_outcome.specs.Answering.{stop_line}
use Rattle.thy_outcome.proofs.closing.close_stop.Goals as goal

pub returns-in-Nvm : goal.returns-in-Nvm
returns-in-Nvm g c =
    subst (λ stop. Sent c.close.result (g.R.Sink.stream c.args.report.now) (g.R.Sink.stream c.close.new.report)
    (stop_line c.args.limit stop)) (sym c.in-Nvm.is) c.close.ensures

pub returns-in-Terminal : goal.returns-in-Terminal
returns-in-Terminal g c =
    subst (λ stop. Sent c.close-in-Terminal.result (g.R.Sink.stream c.args.report.now) (g.R.Sink.stream c.close-in-Terminal.new.report)
    (stop_line c.args.limit stop)) (sym c.in-Terminal.is) c.close-in-Terminal.ensures
