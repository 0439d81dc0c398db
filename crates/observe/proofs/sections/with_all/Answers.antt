use Rattle.std.proofs.Common.{string_bytes}
use Rattle.observe.proofs.SectionLemmas.{all-parts, some-weaker}
use Rattle.observe.proofs.sections.with_all.Goals as goal

pub returns : goal.returns
returns c =
    some-weaker c.with_trace.result _ _ (λ whole h.
    all-parts c.args.options c.window.result c.args.begun.now c.args.changes.now (string_bytes c.args.text) (string_bytes c.in_ok-text.text)
    (string_bytes c.in_ok-text-2.text) (string_bytes c.in_ok-text-3.text) (string_bytes whole) c.window.ensures
    c.in_ok-text.ensures c.in_ok-text-2.ensures c.in_ok-text-3.ensures h)
    c.with_trace.ensures
