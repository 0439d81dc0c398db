use Rattle.std.proofs.Common.{◌*◌, arith}
use Rattle.thy_block.specs.Places.{record_blocks}
use Rattle.thy_layout.proofs.FileLemmas.{table_in-slice}
use Rattle.thy_layout.proofs.table_slot.table_behind.Goals as goal

pub returns : goal.returns
returns c =
    table_in-slice c.args.slot.now _ _ (8 * record_blocks c.args.geometry.now) c.args.entries (omega arith)
    (omega (arith, c.record_size-first.ensures.size)) (omega (arith, c.requires))
