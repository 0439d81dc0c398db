use Rattle.std.proofs.Common.{ap}
use Rattle.thy_checkpoint.specs.Progress.{Progress}
use Rattle.thy_checkpoint.proofs.ItemLemmas.{fits_then}
use Rattle.thy_checkpoint.proofs.engine.Engine.step.Goals as goal

pub returns-clause-fits : goal.returns-clause-fits
returns-clause-fits g c =
    let done = c.in_ok-done.ensures in
    fits_then g.E.Fills.filling g.E.Checkpoints.items c.recall_items.ensures c.args.self.now c.args.control.now c.act.new.control _
    c.in_ok-done.done.stage c.requires.fits done.done.stage done.acts.control
    (ap (λ (x : Progress). record x { stage = c.in_ok-done.done.stage }) c.self.view_is)
