use Rattle.std.proofs.Common.{Some, refl}
use Rattle.thy_observe.proofs.TallyLemmas.{IsTally-kept}
use Rattle.thy_observe.proofs.tally.TallyObserver.keep.Goals as goal

pub returns : goal.returns
returns c = λ seen h. (IsTally-kept c.args.self.now seen (Some c.args.stepped.now) h, refl)
