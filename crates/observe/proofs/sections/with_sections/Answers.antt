use Rattle.std.proofs.Common.{sym, ◌∙◌, string_bytes}
use Rattle.observe.proofs.SectionLemmas.{sections-asked}
use Rattle.observe.proofs.sections.with_sections.Goals as goal

pub returns-in_ok-begun : goal.returns-in_ok-begun
returns-in_ok-begun c =
    sections-asked string_bytes c.args.options c.args.begun c.in_ok-begun.begun c.args.changes.now (string_bytes c.args.text) c.with_all.result
    (sym c.asks.ensures ∙ c.if-asks.true) c.in_ok-begun.was c.with_all.ensures
