use Rattle.thy_out.proofs.Known.{Keeps-same, TookPart-behind}
use Rattle.thy_out.proofs.target.Target.fill.Goals as goal

pub returns-clause-failed : goal.returns-clause-failed
returns-clause-failed g c =
    TookPart-behind c.sync.result _ _ _ _ c.in_ok-write.ensures.whole (Keeps-same _ _ c.sync.ensures.taken) c.sync.ensures.count
