use Rattle.std.proofs.Common.{sym, ◌∙◌}
use Rattle.thy_layout.specs.Files.{blocks_of}
use Rattle.thy_record.specs.Slots.{tables_in}
use Rattle.thy_record.specs.Tables.{Tables}
use Rattle.thy_thynvm_parts.proofs.ListingLemmas.{may_block}
use Rattle.thy_thynvm_parts.proofs.listing.list_one_block.Goals as goal

pub list_block-requires-clause-may : goal.list_block-requires-clause-may
list_block-requires-clause-may c =
    let t : Tables = tables_in c.args.geometry.now (blocks_of c.args.slot.now) in
    may_block c.args.geometry.now c.args.i 0 t c.args.control.now c.requires.geometry c.requires.tables c.requires.before
    c.recall_tables.ensures c.tables_allow_listing.ensures.block
    c.in-Some.b c.requires.entry (sym c.listed_block.ensures ∙ c.in-Some.is)
