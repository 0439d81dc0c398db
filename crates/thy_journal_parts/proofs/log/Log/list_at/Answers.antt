use Rattle.std.proofs.Common.{length, Some, ◌∙◌, ap}
use Rattle.std.proofs.lemmas.List.{length-set}
use Rattle.thy_table.specs.Listing.{Listing}
use Rattle.thy_journal_parts.specs.declared.entry.Listed.{Listed}
use Rattle.thy_journal_parts.proofs.StateLemmas.{IsSoundState-table}
use Rattle.thy_journal_parts.proofs.log.Log.list_at.Goals as goal

pub invariant_of-self : goal.invariant_of-self
invariant_of-self c =
    IsSoundState-table c.self.inside.geometry c.self.inside.table c.put.new.self c.self.inside.dram c.self.invariant
    (ap (λ (t : Listing Listed). length t.entries) c.put.ensures ∙ length-set c.self.inside.table.entries c.args.i (Some c.new.result))
    (ap (λ (t : Listing Listed). t.numbers) c.put.ensures) c.recall_lists_once.ensures
