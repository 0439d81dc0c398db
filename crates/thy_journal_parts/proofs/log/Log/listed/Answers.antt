use Rattle.std.proofs.Common.{ℕ, ◌<◌, sym, ◌∙◌, ap, subst}
use Rattle.thy_block.specs.Geometry.{memory_blocks}
use Rattle.thy_table.specs.Listing.{entry_at}
use Rattle.thy_journal_parts.specs.Items.{listed_by}
use Rattle.thy_journal_parts.specs.State.{State}
use Rattle.thy_journal_parts.proofs.StateLemmas.{block_listed-inside}
use Rattle.thy_journal_parts.proofs.log.Log.listed.Goals as goal

pub returns-clause-inside : goal.returns-clause-inside
returns-clause-inside c =
    let s : State = c.args.self.now in
    subst (λ (b : ℕ). b < memory_blocks s.p)
    (sym (c.block_or_zero.ensures ∙ ap listed_by c.entry.ensures ∙ ap (λ (t : State). listed_by (entry_at t.table c.args.i)) c.self.view_is))
    (block_listed-inside s c.args.i c.recall_sound.ensures)
