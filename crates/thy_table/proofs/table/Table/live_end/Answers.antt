use Rattle.std.proofs.Common.{length, sym, ◌∙◌, ap, arith}
use Rattle.thy_table.specs.Listing.{entry_at}
use Rattle.thy_table.proofs.table.Table.live_end.Goals as goal

pub returns-clause-free : goal.returns-clause-free
returns-clause-free g c = λ i past. sym (ap (λ t. entry_at t i) c.self.view_is) ∙ c.self.invariant.1.free i past

pub returns-clause-within : goal.returns-clause-within
returns-clause-within g c = omega (arith, c.self.invariant.1.within, ap (λ t. length t.entries) c.self.view_is)
