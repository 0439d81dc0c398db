use Rattle.std.proofs.Common.{sym, ◌∙◌}
use Rattle.thy_text.specs.Seen.{event_of}
use Rattle.thy_run.specs.Cuts.{is_end}
use Rattle.thy_commands.proofs.ComparingLaws.{after_end, after_other, ended_more}
use Rattle.thy_commands.proofs.comparing.has_ended.Goals as goal
use Rattle.thy_commands.proofs.comparing.has_ended.Goals.{then-is_end, else-is_end}

pub loop-i-preserved : goal.loop-i-preserved
loop-i-preserved c =
    let v = event_of c.get.result.now in
    let more = sym (ended_more c.args.events.now c.loop-i.i v c.get.ensures) in
    elim c.if-is_end.branch [
      | then-is_end w ↦ w.ended-is ∙ after_end _ (is_end v) (sym c.is_end.ensures ∙ w.if-is_end.true) ∙ more
      | else-is_end w ↦ w.ended-is ∙ c.loop-i.invariant ∙ after_other _ (is_end v) (sym c.is_end.ensures ∙ w.if-is_end.false) ∙ more
    ]
