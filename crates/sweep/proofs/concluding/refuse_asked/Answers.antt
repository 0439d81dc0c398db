use Rattle.std.proofs.Common.{ℕ, List, refl, subst, inl, inr, string_bytes}
use Rattle.thy_run.specs.Sending.{Sent}
use Rattle.sweep.proofs.concluding.refuse_asked.Goals as goal

pub returns-in-Ok : goal.returns-in-Ok
returns-in-Ok g c =
    let old = g.R.Sink.stream c.args.report.now in
    let new = g.R.Sink.stream c.say.new.report in
    let sent : Sent c.say.result old new (string_bytes c.in-Ok.line) = subst (λ (l : List ℕ). Sent c.say.result old new l) c.as_str.ensures.value c.say.ensures in
    inl (string_bytes c.in-Ok.line, c.in-Ok.ensures, refl, (c.say.result, sent))

pub returns-in-Err : goal.returns-in-Err
returns-in-Err g c = inr c.report_short.ensures
