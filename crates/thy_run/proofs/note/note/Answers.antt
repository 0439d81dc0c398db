use Rattle.std.proofs.Common.{◌∙◌}
use Rattle.thy_run.proofs.NoteLemmas.{made_but_end, ended_halts}
use Rattle.thy_run.proofs.ReportLemmas.{OnErr-any}
use Rattle.thy_run.proofs.note.note.Goals as goal

pub returns-in_err-status-clause-err : goal.returns-in_err-status-clause-err
returns-in_err-status-clause-err c = λ o fresh v next reload ends restores ending.
    OnErr-any c.from_residual-in_err-status.result _
    (made_but_end o fresh v next c.args.did c.args.cycle c.args.reload c.args.events.now c.note_reload.new.events c.note_end.new.events reload
    c.in_ok-note_reload.ensures.ok (c.in_err-status.ensures.err ∙ c.in_ok-note_did.ensures.ok o v ends restores)
    (ended_halts o v next c.args.ended ending c.in_err-status.ensures.due))
