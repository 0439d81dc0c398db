use Rattle.thy_thynvm_parts.proofs.ListingLemmas.{AsListed-start, AsListed-on, same_p-listed}
use Rattle.std.proofs.Common.{◌∙◌, ◌+◌}
use Rattle.thy_layout.specs.Files.{blocks_of}
use Rattle.thy_record.specs.Slots.{tables_in}
use Rattle.thy_thynvm_parts.proofs.listing.list_pages.Goals as goal

pub loop-j-init : goal.loop-j-init
loop-j-init c = AsListed-start c.args.geometry.now.btt 0
    (tables_in c.args.geometry.now (blocks_of c.args.slot.now)) c.args.control.now c.requires.blocks

pub list_one_page-requires-clause-geometry : goal.list_one_page-requires-clause-geometry
list_one_page-requires-clause-geometry c =
    same_p-listed c.args.geometry.now.btt c.loop-j.j (tables_in c.args.geometry.now (blocks_of c.args.slot.now)) c.args.control.now
    c.loop-j.control c.loop-j.invariant ∙ c.requires.geometry

pub list_one_page-requires-clause-before : goal.list_one_page-requires-clause-before
list_one_page-requires-clause-before c = c.loop-j.invariant.lists

pub loop-j-preserved : goal.loop-j-preserved
loop-j-preserved c =
    AsListed-on c.args.geometry.now.btt c.loop-j.j c.args.geometry.now.btt (c.loop-j.j + 1) (tables_in c.args.geometry.now
    (blocks_of c.args.slot.now)) c.args.control.now c.loop-j.control _ c.loop-j.invariant c.list_one_page.ensures
