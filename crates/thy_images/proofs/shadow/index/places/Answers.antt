use Rattle.std.proofs.Common.{arith}
use Rattle.std.proofs.lemmas.List.FromFn.{fill_by_all}
use Rattle.thy_block.specs.Geometry.{memory_blocks}
use Rattle.thy_layout.specs.Files.{blocks_of}
use Rattle.thy_images.specs.ShadowPlaces.{place_of}
use Rattle.thy_images.specs.ShadowSlots.{table_in}
use Rattle.thy_images.proofs.shadow.index.places.Goals as goal

pub returns : goal.returns
returns c =
    let p = c.args.geometry.now in
    fill_by_all (place_of p (table_in p (blocks_of c.args.slot.now))) c.loop-b.index.items
    (memory_blocks p) 0
    (omega (arith, c.loop-b.invariant.0, c.memory_blocks-blocks.ensures.blocks))
    (λ b l. c.loop-b.invariant.1 b (omega (arith, l, c.memory_blocks-blocks.ensures.blocks)))
