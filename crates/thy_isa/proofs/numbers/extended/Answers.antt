use Rattle.std.proofs.Common.{arith}
use Rattle.std.proofs.lemmas.Grind.{common_steps}
use Rattle.thy_isa.specs.Extending.{extended}
use Rattle.thy_isa.proofs.numbers.extended.Goals as goal

pub returns-in-Word : goal.returns-in-Word
unfolding extended
returns-in-Word c = grind (arith, common_steps)
