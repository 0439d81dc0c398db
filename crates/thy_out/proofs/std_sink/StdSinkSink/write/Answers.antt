use Rattle.thy_out.proofs.Known.{Took-behind, TookPart-behind}
use Rattle.thy_out.proofs.std_sink.StdSinkSink.write.Goals as goal

pub returns-clause-whole : goal.returns-clause-whole
returns-clause-whole g c = Took-behind c.flush.result _ _ _ _ c.in_ok-write.ensures.whole c.flush.ensures.taken c.flush.ensures.count

pub returns-clause-failed : goal.returns-clause-failed
returns-clause-failed g c = TookPart-behind c.flush.result _ _ _ _ c.in_ok-write.ensures.whole c.flush.ensures.taken c.flush.ensures.count
