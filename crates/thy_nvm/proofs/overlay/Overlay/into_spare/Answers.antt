use Rattle.std.proofs.Common.{length, sym, ◌∙◌, ap}
use Rattle.thy_dram.proofs.MergedLemmas.{length-merged}
use Rattle.thy_nvm.specs.Overlaid.{Overlaid}
use Rattle.thy_nvm.proofs.overlay.Overlay.into_spare.Goals as goal

pub returns-clause-blocks : goal.returns-clause-blocks
returns-clause-blocks c =
    sym (length-merged c.self.inside.marks.items c.self.inside.ring.image c.self.inside.below.now)
    ∙ ap (λ (o : Overlaid). length o.device.image) c.self.view_is
