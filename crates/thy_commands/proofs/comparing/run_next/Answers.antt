use Rattle.std.proofs.Common.{◌∙◌, ◌++◌, ap, subst, refl, inl, inr}
use Rattle.thy_block.specs.declared.parameters.Parameters.{Parameters}
use Rattle.thy_outcome.specs.declared.refusal.Refusal.TheVariants.{Device as DeviceRefusal, Memory as MemoryRefusal}
use Rattle.thy_outcome.specs.Answering.{stop_line}
use Rattle.thy_run.specs.Sending.{Sent}
use Rattle.thy_outcome.specs.Comparing.{line_status, scheme_lines}
use Rattle.thy_commands.proofs.ComparingLaws.{last_taken, joined_last}
use Rattle.thy_commands.proofs.comparing.run_next.Goals as goal

pub returns-in-Err : goal.returns-in-Err
returns-in-Err g c = inl (record {
  why = MemoryRefusal c.in-Err.error;
  due = refl;
  events = c.end_before.ensures.events ∙ c.in-Err.ensures.kept;
  shelf = refl;
  terminal = refl;
  closes = c.end_before.ensures.closes;
  status = c.end_before.ensures.status;
  cycles = c.end_before.ensures.cycles;
})

pub returns-in-Ok : goal.returns-in-Ok
returns-in-Ok g c =
    let ran = c.in-Ok.ran in
    let scheme = c.args.plan.now.config.scheme in
    let failed = c.write_run-failed.result in
    let old = g.R.Sink.stream c.args.report.now in
    let new = g.R.Sink.stream c.write_run-failed.new.report in
    inr (record {
      ran = ran;
      run = λ job none h.
          let r = c.in-Ok.ensures.runs job none
          (record { config = h.config; digest = h.digest; program = h.program; origin = h.origin; over = c.new.ensures.items ∙ h.over }) in
          (r.0, r.1);
      events = joined_last _ _ _ _ c.in_default.ensures.made;
      failed = failed;
      lines =
          subst (λ w. Sent failed old new (scheme_lines scheme ran.events w ++ stop_line c.args.plan.now.geometry.limit ran.stop)) c.writes-writes.ensures
          (subst (λ l. Sent failed old new (scheme_lines scheme ran.events c.writes-writes.result ++ stop_line l ran.stop))
          (ap (λ (x : Parameters). x.limit) c.numbers-limit.ensures.same) c.write_run-failed.ensures);
      status = c.line_status.ensures ∙ ap (λ b. line_status b failed ran.status) c.has_ended-ended.ensures;
      cycles = refl;
    })

pub returns-in-Err-run_plan : goal.returns-in-Err-run_plan
returns-in-Err-run_plan g c = inl (record {
  why = DeviceRefusal c.in-Err-run_plan.error;
  due = c.in-Err-run_plan.ensures.unfitted.failed;
  events = c.end_before-in-Err-run_plan.ensures.events ∙ last_taken _ _ _ _ _ c.in_default.ensures.made c.in_default.ensures.emptied c.pop.ensures;
  shelf = c.in-Err-run_plan.ensures.unfitted.shelf;
  terminal = c.in-Err-run_plan.ensures.unfitted.terminal;
  closes = c.end_before-in-Err-run_plan.ensures.closes;
  status = c.end_before-in-Err-run_plan.ensures.status;
  cycles = c.end_before-in-Err-run_plan.ensures.cycles;
})
