use Rattle.std.proofs.Common.{length, ◌∙◌, ap}
use Rattle.thy_table.specs.Listing.{Listing}
use Rattle.thy_journal_parts.specs.declared.entry.Listed.{Listed}
use Rattle.thy_journal_parts.proofs.StateLemmas.{IsSoundState-table, length-mapped}
use Rattle.thy_journal_parts.proofs.log.Log.release.Goals as goal

pub invariant_of-self : goal.invariant_of-self
invariant_of-self c =
    IsSoundState-table c.self.inside.geometry c.self.inside.table c.map_entries.new.self c.self.inside.dram c.self.invariant
    (ap (λ (t : Listing Listed). length t.entries) c.map_entries.ensures ∙ length-mapped c.self.inside.table)
    (ap (λ (t : Listing Listed). t.numbers) c.map_entries.ensures) c.recall_lists_once.ensures
