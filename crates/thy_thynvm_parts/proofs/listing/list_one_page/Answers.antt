use Rattle.std.proofs.Common.{sym, ◌∙◌}
use Rattle.thy_layout.specs.Files.{blocks_of}
use Rattle.thy_record.specs.Slots.{tables_in}
use Rattle.thy_record.specs.Tables.{Tables}
use Rattle.thy_thynvm_parts.proofs.ListingLemmas.{may_page}
use Rattle.thy_thynvm_parts.proofs.listing.list_one_page.Goals as goal

pub list_page-requires-clause-may : goal.list_page-requires-clause-may
list_page-requires-clause-may c =
    let t : Tables = tables_in c.args.geometry.now (blocks_of c.args.slot.now) in
    may_page c.args.geometry.now c.args.geometry.now.btt c.args.j t c.args.control.now c.requires.geometry c.requires.tables
    c.requires.before c.recall_tables.ensures c.tables_allow_listing.ensures.page
    c.in-Some.page c.requires.entry (sym c.listed_page.ensures ∙ c.in-Some.is)
