use Rattle.std.proofs.Common.{◌∙◌}
use Rattle.thy_layout.specs.Files.{blocks_of}
use Rattle.thy_record.specs.Slots.{tables_in}
use Rattle.thy_thynvm_parts.proofs.ListingLemmas.{AsListed-on, same_p-listed}
use Rattle.thy_thynvm_parts.proofs.listing.list_all.Goals as goal

pub list_pages-requires-clause-geometry : goal.list_pages-requires-clause-geometry
list_pages-requires-clause-geometry c =
    same_p-listed c.args.geometry.now.btt 0 (tables_in c.args.geometry.now (blocks_of c.args.slot.now)) c.args.control.now
    c.list_blocks.new.control c.list_blocks.ensures ∙ c.requires.geometry

pub returns : goal.returns
returns c =
    AsListed-on c.args.geometry.now.btt 0 c.args.geometry.now.btt c.args.geometry.now.ptt (tables_in c.args.geometry.now (blocks_of c.args.slot.now))
    c.args.control.now c.list_blocks.new.control c.list_pages.new.control c.list_blocks.ensures c.list_pages.ensures
