use Rattle.std.proofs.Common.{Some, refl}
use Rattle.thy_observe.proofs.LedgerLemmas.{IsLedger-kept}
use Rattle.thy_observe.proofs.ledger.LedgerObserver.keep.Goals as goal

pub returns : goal.returns
returns c = λ seen h. (IsLedger-kept c.args.self.now seen (Some c.args.stepped.now) h, refl)
