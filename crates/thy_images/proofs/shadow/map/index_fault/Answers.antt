use Rattle.std.proofs.Common.{arith}
use Rattle.thy_layout.specs.Files.{blocks_of}
use Rattle.thy_images.proofs.ShadowSlotLemmas.{stray_past}
use Rattle.thy_images.proofs.shadow.map.index_fault.Goals as goal

pub returns : goal.returns
returns c =
    stray_past c.args.geometry.now (blocks_of c.args.slot.now) c.loop-x.x (omega (arith, c.map_blocks.ensures.blocks)) c.loop-x.invariant
