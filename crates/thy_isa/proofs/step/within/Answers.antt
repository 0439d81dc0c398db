use Rattle.std.proofs.Common.{rules}
use Rattle.thy_isa.specs.Step.{within}
use Rattle.thy_isa.proofs.step.within.Goals as goal

pub returns-in_default-2 : goal.returns-in_default-2
unfolding within
returns-in_default-2 c = search rules
