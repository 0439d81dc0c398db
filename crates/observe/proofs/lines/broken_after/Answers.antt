use Rattle.std.proofs.Common.{ℕ, Option, ap, ap₂, ◌∙◌}
use Rattle.thy_observe.specs.declared.event_cycle.RetiredCount.{RetiredCount}
use Rattle.observe.specs.declared.lines.Stamp.{Stamp}
use Rattle.observe.specs.EventText.{plus}
use Rattle.observe.proofs.lines.broken_after.Goals as goal

pub returns : goal.returns
returns c = λ seen h.
    let stamp : ℕ → Option RetiredCount → Stamp = λ k r. record { cycle = k; retired = r } in
    ap₂ stamp (c.saturating_add-cycle.ensures ∙ ap (λ (n : ℕ). plus n 1) (c.cycles-done.ensures seen h)) (c.retired-retired.ensures seen h)
