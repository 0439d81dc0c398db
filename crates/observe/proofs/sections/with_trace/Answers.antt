use Rattle.std.proofs.Common.{Bool, List, ◌++◌, sym, ◌∙◌, ap, subst, string_bytes}
use Rattle.thy_observe.specs.declared.tracing.Traced.{Traced}
use Rattle.observe.specs.Sections.{GoesOn, IsTracePart}
use Rattle.observe.specs.TraceText.{trace_text}
use Rattle.observe.proofs.SectionLemmas.{trace-listed}
use Rattle.observe.proofs.sections.with_trace.Goals as goal

pub returns-in-Ok-add_trace : goal.returns-in-Ok-add_trace
returns-in-Ok-add_trace c =
    subst (λ (asked : Bool). GoesOn (IsTracePart asked c.args.window c.args.begun.now c.args.changes.now) (string_bytes c.args.text) (string_bytes c.add_trace.new.text))
    (sym c.if-not-asked.false)
    (trace-listed c.args.window c.args.begun.now c.args.changes.now c.in_ok-listed.listed.now c.in-Ok.rows.items (string_bytes c.args.text)
    (string_bytes c.add_trace.new.text) c.in_ok-listed.ensures.changes c.in-Ok.ensures
    (c.in-Ok-add_trace.ensures ∙ ap (λ (rows : List Traced). string_bytes c.args.text ++ trace_text rows) c.as_slice.ensures.value))
