use Rattle.std.proofs.Common.{None}
use Rattle.thy_observe.proofs.TallyLemmas.{IsTally-kept}
use Rattle.thy_observe.proofs.tally.TallyObserver.forget.Goals as goal

pub returns : goal.returns
returns c = λ seen r h. IsTally-kept c.args.self.now seen None h.0
