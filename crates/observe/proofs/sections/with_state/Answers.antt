use Rattle.std.proofs.Common.{ℕ, Option, sym, ap, subst, string_bytes}
use Rattle.thy_block.specs.declared.parameters.Parameters.{Parameters}
use Rattle.observe.proofs.SectionLemmas.{some-weaker, state-listed}
use Rattle.observe.specs.Sections.{GoesOn, IsStatePart}
use Rattle.observe.proofs.sections.with_state.Goals as goal

pub returns : goal.returns
returns c =
    some-weaker c.with_section.result _ _ (λ whole h.
    subst (λ (asked : Option ℕ). GoesOn (IsStatePart asked c.args.begun.now c.args.changes.now) (string_bytes c.args.text) (string_bytes whole)) (sym c.in-Some.is)
    (state-listed c.args.begun.now c.args.changes.now c.in_ok-listed.listed.now c.cycles-cycles.result c.in-Some.cycle c.numbers-base.result.base _
    (string_bytes c.args.text) (string_bytes whole) c.in_ok-listed.ensures.changes c.cycles-cycles.ensures c.in-Ok.ensures
    (ap (λ (p : Parameters). p.base) c.numbers-base.ensures.same) h))
    c.with_section.ensures
