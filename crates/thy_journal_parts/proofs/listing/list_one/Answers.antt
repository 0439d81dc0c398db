use Rattle.std.proofs.Common.{sym, ◌∙◌}
use Rattle.thy_layout.specs.Files.{blocks_of}
use Rattle.thy_journal_parts.proofs.ListLemmas.{listed_inside, not_listed}
use Rattle.thy_journal_parts.proofs.listing.list_one.Goals as goal

pub list_at-requires-clause-block : goal.list_at-requires-clause-block
list_at-requires-clause-block c =
    listed_inside c.args.geometry.now c.args.i (blocks_of c.args.slot.now) c.args.log.now
    c.requires.table c.requires.before c.in-Some.block
    (sym (sym c.listed_block.ensures ∙ c.in-Some.is))

pub list_at-requires-clause-unlisted : goal.list_at-requires-clause-unlisted
list_at-requires-clause-unlisted c =
    not_listed c.args.geometry.now c.args.i (blocks_of c.args.slot.now) c.args.log.now
    c.requires.table c.requires.before c.in-Some.block
    (sym (sym c.listed_block.ensures ∙ c.in-Some.is))
