use Rattle.std.proofs.Common.{◌∙◌, Ok, IfErr, ap, subst, sym}
use Rattle.std.proofs.lemmas.Result.{err_from_is_err_and}
use Rattle.clap.specs.Matches.{found_of}
use Rattle.clap.specs.Walk.{rows_of}
use Rattle.thy_base.specs.Refused.{NeedsMemory}
use Rattle.thy_base.specs.Settings.{order_for, order_from, values_in}
use Rattle.thy_base.proofs.Needing.{order_from-Ok, order_from-memory}
use Rattle.thy_base.proofs.arguments.words.order_for.Goals as goal

pub returns-in-Ok-clause-exact : goal.returns-in-Ok-clause-exact
returns-in-Ok-clause-exact c =
    ap (order_from c.args.verb (rows_of (found_of c.args.matches.now))) c.in_ok-values.ensures.exact ∙ ap Ok (sym c.in-Ok.ensures)

pub returns-in-Err-clause-memory : goal.returns-in-Err-clause-memory
returns-in-Err-clause-memory c =
    let rows = rows_of (found_of c.args.matches.now) in
    order_from-Ok c.args.verb rows (values_in rows) c.in_ok-values.values c.in-Err.error c.in_ok-values.ensures.exact

pub returns-in_err-values-clause-memory : goal.returns-in_err-values-clause-memory
returns-in_err-values-clause-memory c =
    let rows = rows_of (found_of c.args.matches.now) in
    let asked = order_for c.args.verb rows in
    let needs : NeedsMemory asked c.in_err-values.field-0.0 =
    order_from-memory c.args.verb rows (values_in rows) c.in_err-values.field-0.0 c.in_err-values.ensures.memory in
    let moved = err_from_is_err_and c.from_residual.result c.from_residual.ensures.1 in
    subst (λ r. IfErr r (NeedsMemory asked)) (sym moved.1) (subst (NeedsMemory asked) (sym moved.2) needs)
