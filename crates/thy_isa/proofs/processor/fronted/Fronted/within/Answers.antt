use Rattle.std.proofs.Common.{rules}
use Rattle.thy_isa.specs.Step.{within}
use Rattle.thy_isa.proofs.processor.fronted.Fronted.within.Goals as goal

pub returns-in_default : goal.returns-in_default
unfolding within
returns-in_default c = search rules
