use Rattle.thy_thynvm_parts.proofs.ListingLemmas.{AsListed-start, AsListed-on, same_p-listed}
use Rattle.std.proofs.Common.{◌∙◌, ◌+◌}
use Rattle.thy_layout.specs.Files.{blocks_of}
use Rattle.thy_record.specs.Slots.{tables_in}
use Rattle.thy_thynvm_parts.proofs.listing.list_blocks.Goals as goal

pub loop-i-init : goal.loop-i-init
loop-i-init c = AsListed-start 0 0 (tables_in c.args.geometry.now (blocks_of c.args.slot.now)) c.args.control.now c.requires.fresh

pub list_one_block-requires-clause-geometry : goal.list_one_block-requires-clause-geometry
list_one_block-requires-clause-geometry c =
    same_p-listed c.loop-i.i 0 (tables_in c.args.geometry.now (blocks_of c.args.slot.now)) c.args.control.now c.loop-i.control
    c.loop-i.invariant ∙ c.requires.geometry

pub list_one_block-requires-clause-before : goal.list_one_block-requires-clause-before
list_one_block-requires-clause-before c = c.loop-i.invariant.lists

pub loop-i-preserved : goal.loop-i-preserved
loop-i-preserved c =
    AsListed-on c.loop-i.i 0 (c.loop-i.i + 1) 0 (tables_in c.args.geometry.now (blocks_of c.args.slot.now)) c.args.control.now
    c.loop-i.control _ c.loop-i.invariant c.list_one_block.ensures
