use Rattle.std.proofs.Common.{◌*◌, length, ap, arith}
use Rattle.thy_block.specs.Places.{record_blocks}
use Rattle.thy_layout.specs.Files.{blocks_of}
use Rattle.thy_layout.proofs.ClashLemmas.{length-table_in}
use Rattle.thy_layout.proofs.SlotLemmas.{length-entries_in}
use Rattle.thy_images.proofs.journal.slot_faults.listed_block.Goals as goal

pub entry-requires : goal.entry-requires
entry-requires c =
    let p = c.args.geometry.now in
    omega (arith, length-table_in c.table_of.result.now, length-entries_in (blocks_of c.args.slot.now) (8 * record_blocks p) p.btt, ap length c.table_of.ensures, c.requires.entry)
