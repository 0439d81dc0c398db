use Rattle.std.proofs.Common.{refl}
use Rattle.thy_observe.proofs.accesses.NowhereSink.write.Goals as goal

pub returns-clause-whole : goal.returns-clause-whole
returns-clause-whole c = record { taken = λ had is. absurd (cc); faults = refl }
