use Rattle.std.proofs.Common.{sym}
use Rattle.thy_gap.proofs.CopyLemmas.{queue_within}
use Rattle.thy_gap.proofs.gap.Gap.recall_queue.Goals as goal

pub returns : goal.returns
returns g c = rw (sym c.self.view_is) (queue_within c.self.invariant (rw (sym c.self.view_is) at c.requires))
