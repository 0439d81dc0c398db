use Rattle.std.proofs.Common.{None}
use Rattle.thy_observe.proofs.LedgerLemmas.{IsLedger-kept}
use Rattle.thy_observe.proofs.ledger.LedgerObserver.forget.Goals as goal

pub returns : goal.returns
returns c = λ seen r h. IsLedger-kept c.args.self.now seen None h.0
