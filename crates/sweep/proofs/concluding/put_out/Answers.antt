use Rattle.std.proofs.Common.{refl, subst, inl, inr}
use Rattle.sweep.specs.Concluding.{ReportsOut}
use Rattle.sweep.proofs.concluding.put_out.Goals as goal

pub returns-in-Ok : goal.returns-in-Ok
returns-in-Ok g c =
    inr (record {
      text = c.as_str.result.now;
      why = c.put_text-why.result;
      put = c.put_text-why.ensures;
      reported = subst (λ due. ReportsOut c.args.out.now c.put_text-why.result (g.R.Sink.stream c.args.report.now) (g.R.Sink.stream c.write_report.new.report) due c.write_report.result) c.due_of-due.ensures c.write_report.ensures;
    })

pub returns-in-Err : goal.returns-in-Err
returns-in-Err g c = inl (refl, c.report_short.ensures)
