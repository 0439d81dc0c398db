use Rattle.std.proofs.Common.{length, ap, arith}
use Rattle.thy_layout.specs.Files.{blocks_of}
use Rattle.thy_layout.proofs.ClashLemmas.{length-table_in}
use Rattle.thy_images.proofs.ShadowSlotLemmas.{table_long}
use Rattle.thy_images.proofs.shadow.map.listed_page.Goals as goal

pub entry-requires : goal.entry-requires
entry-requires c =
    omega (arith, length-table_in c.map_in.result.now, table_long c.args.geometry.now (blocks_of c.args.slot.now), ap length c.map_in.ensures, c.requires.entry)
