use Rattle.std.proofs.Common.{ap, ◌∙◌}
use Rattle.sweep.specs.Concluding.{closed_as}
use Rattle.sweep.proofs.concluding.close_stopped.Goals as goal

pub returns : goal.returns
returns g c = (
  c.stopped-ran.result.status,
  c.stopped-ran.ensures.closes,
  c.closed_as.ensures ∙ ap (λ s. closed_as s c.stopped-ran.result.status) c.stopped-ran.ensures.stop,
)
