use Rattle.std.proofs.Common.{length, ap, arith}
use Rattle.thy_dram.proofs.MergedLemmas.{length-merged}
use Rattle.thy_nvm.specs.Overlaid.{Overlaid}
use Rattle.thy_nvm.proofs.overlay.OverlayNvm.kept.Goals as goal

pub block-requires-clause-place : goal.block-requires-clause-place
block-requires-clause-place c =
    omega (
      arith,
      c.requires.place,
      ap (λ (o : Overlaid). length o.device.image) c.self.view_is,
      length-merged c.self.inside.marks.items c.self.inside.ring.image c.self.inside.below.now,
      c.self.invariant.kept,
    )
