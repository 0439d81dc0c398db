use Rattle.std.proofs.Common.{Bool, sym, subst, string_bytes}
use Rattle.observe.specs.Sections.{GoesOn, IsPcsPart}
use Rattle.observe.proofs.SectionLemmas.{pcs-listed}
use Rattle.observe.proofs.sections.with_pcs.Goals as goal

pub returns-in-Ok-add_pcs : goal.returns-in-Ok-add_pcs
returns-in-Ok-add_pcs c =
    subst (λ (asked : Bool). GoesOn (IsPcsPart asked c.args.begun.now c.args.changes.now) (string_bytes c.args.text) (string_bytes c.add_pcs.new.text)) (sym c.if-not-asked.false)
    (pcs-listed c.args.begun.now c.args.changes.now c.in_ok-listed.listed.now c.in-Ok.counts.entries (string_bytes c.args.text)
    (string_bytes c.add_pcs.new.text) c.in_ok-listed.ensures.changes c.in-Ok.ensures c.in-Ok-add_pcs.ensures.rising c.in-Ok-add_pcs.ensures.text)
