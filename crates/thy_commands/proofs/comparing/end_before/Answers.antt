use Rattle.std.proofs.Common.{subst}
use Rattle.thy_outcome.specs.Answering.{Closes}
use Rattle.thy_commands.proofs.comparing.end_before.Goals as goal

pub returns-clause-closes : goal.returns-clause-closes
returns-clause-closes g c =
    subst (λ line. Closes line (g.R.Sink.stream c.args.report.now) (g.R.Sink.stream c.close.new.report))
    c.report_of_refusal-status.ensures.line (c.close.result, c.close.ensures)
