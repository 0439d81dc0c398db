use Rattle.std.proofs.Common.{refl}
use Rattle.thy_observe.proofs.EpochLemmas.{AreEpochs-kept}
use Rattle.thy_observe.proofs.epochs.EpochsObserver.keep.Goals as goal

pub returns : goal.returns
returns c = λ seen h. (AreEpochs-kept c.args.self.now _ seen refl refl refl refl h, refl)
