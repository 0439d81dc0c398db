use Rattle.std.proofs.Common.{sym, ap, subst}
use Rattle.thy_block.specs.Device.{Crash}
use Rattle.thy_block.proofs.CrashLemmas.{Crash-image, Crash-applied}
use Rattle.thy_nvm.specs.Pick.{landing}
use Rattle.thy_nvm.proofs.pick.take_pick.Goals as goal

pub returns-in-0-clause-left : goal.returns-in-0-clause-left
returns-in-0-clause-left c = Crash-image (landing c.args.whole c.args.ring.now)

pub returns-in-1-clause-left : goal.returns-in-1-clause-left
returns-in-1-clause-left c =
    subst (Crash (landing c.args.whole c.args.ring.now)) (sym (ap (λ r. r.image) c.settle.ensures))
    (Crash-applied (landing c.args.whole c.args.ring.now))
