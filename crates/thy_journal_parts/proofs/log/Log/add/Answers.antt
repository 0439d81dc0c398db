use Rattle.std.proofs.Common.{ℕ, Option, length, sym, ◌∙◌, ap}
use Rattle.thy_table.specs.Listing.{Listing, added}
use Rattle.thy_journal_parts.specs.declared.entry.Listed.{Listed}
use Rattle.thy_journal_parts.specs.Keys.{listing_of}
use Rattle.thy_journal_parts.specs.State.{State, state_in}
use Rattle.thy_journal_parts.specs.Stores.{with_listing}
use Rattle.thy_journal_parts.proofs.StateLemmas.{IsSoundState-table, length-added}
use Rattle.thy_journal_parts.proofs.log.Log.add.Goals as goal

pub invariant_of-self : goal.invariant_of-self
invariant_of-self c =
    IsSoundState-table c.self.inside.geometry c.self.inside.table c.add-place.new.self c.self.inside.dram c.self.invariant
    (ap (λ (t : Listing Listed). length t.entries) c.add-place.ensures.table ∙ length-added c.new.result c.self.inside.table)
    (ap (λ (t : Listing Listed). t.numbers) c.add-place.ensures.table) c.recall_lists_once.ensures

pub returns-clause-log : goal.returns-clause-log
returns-clause-log c =
    let s : State = c.args.self.now in
    let b : ℕ = c.args.b in
    ap (λ (t : Listing Listed). state_in c.self.inside.geometry t c.self.inside.dram)
    (c.add-place.ensures.table ∙ ap (λ (x : Listed). added x c.self.inside.table) c.new.ensures)
    ∙ ap (λ (u : State). record u { table = added (listing_of b) u.table }) c.self.view_is
    ∙ sym (ap (λ (o : Option ℕ). record s { table = with_listing o b s.table }) c.requires.unlisted)
