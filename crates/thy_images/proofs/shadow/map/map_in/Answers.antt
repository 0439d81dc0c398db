use Rattle.std.proofs.Common.{◌*◌, ◌∙◌, ℕ, ap, arith}
use Rattle.thy_layout.specs.Files.{blocks_of}
use Rattle.thy_layout.specs.TableSlots.{table_of}
use Rattle.thy_images.proofs.shadow.map.map_in.Goals as goal

pub table_behind-requires : goal.table_behind-requires
table_behind-requires c = omega (arith, c.requires, c.map_blocks.ensures.blocks)

pub returns : goal.returns
returns c =
    c.table_behind.ensures
    ∙ ap (λ (n : ℕ). table_of c.args.geometry.now (8 * n) (blocks_of c.args.slot.now)) c.map_blocks.ensures.blocks
