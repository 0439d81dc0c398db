use Rattle.std.proofs.Common.{subst}
use Rattle.thy_run.specs.Sending.{Sent}
use Rattle.thy_outcome.specs.Comparing.{scheme_lines}
use Rattle.thy_commands.proofs.ComparingLaws.{sent_behind, sent_first}
use Rattle.thy_commands.proofs.comparing.write_run.Goals as goal

pub returns-then-write_sums : goal.returns-then-write_sums
returns-then-write_sums g c =
    sent_first _ _ (g.R.Sink.stream c.args.report.now) (g.R.Sink.stream c.write_sums.new.report)
    (subst (λ b. Sent b (g.R.Sink.stream c.args.report.now) (g.R.Sink.stream c.write_sums.new.report)
    (scheme_lines c.args.scheme c.args.ran.now.events c.args.writes)) c.if-write_sums.true c.write_sums.ensures)

pub returns : goal.returns
returns g c =
    sent_behind c.close_stop.result _ _ (g.R.Sink.stream c.args.report.now) (g.R.Sink.stream c.write_sums.new.report)
    (g.R.Sink.stream c.close_stop.new.report)
    (subst (λ b. Sent b (g.R.Sink.stream c.args.report.now) (g.R.Sink.stream c.write_sums.new.report)
    (scheme_lines c.args.scheme c.args.ran.now.events c.args.writes)) c.if-write_sums.false c.write_sums.ensures)
    c.close_stop.ensures
