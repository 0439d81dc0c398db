use Rattle.std.proofs.Common.{[], arith}
use Rattle.std.proofs.lemmas.List.FromFn.{fill_by_all}
use Rattle.thy_block.specs.Geometry.{memory_blocks}
use Rattle.thy_images.specs.JournalPlaces.{place_of}
use Rattle.thy_images.proofs.journal.index.homes.Goals as goal

pub returns : goal.returns
returns c = λ s.
    fill_by_all (place_of c.args.geometry.now s []) c.loop-b.index.items
    (memory_blocks c.args.geometry.now) 0
    (omega (arith, c.loop-b.invariant.0, c.memory_blocks-blocks.ensures.blocks))
    (λ b l. c.loop-b.invariant.1 b (omega (arith, l, c.memory_blocks-blocks.ensures.blocks)))
