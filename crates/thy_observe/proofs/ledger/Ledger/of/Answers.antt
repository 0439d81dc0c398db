use Rattle.std.proofs.Common.{ℕ, slice_index_or, ◌∙◌, ap}
use Rattle.thy_observe.proofs.LedgerLemmas.{counted}
use Rattle.thy_observe.proofs.ledger.Ledger.of.Goals as goal

pub returns-clause-cycles : goal.returns-clause-cycles
returns-clause-cycles c = λ seen h.
    ap (λ (i : ℕ). slice_index_or c.args.self.now.causes i 0) c.index_of.ensures.index ∙ counted c.args.self.now seen h c.args.cause
