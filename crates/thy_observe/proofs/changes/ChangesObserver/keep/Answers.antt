use Rattle.std.proofs.Common.{refl}
use Rattle.thy_observe.proofs.changes.ChangesObserver.keep.Goals as goal

pub returns : goal.returns
returns c = λ seen h. (h, refl)
