use Rattle.std.proofs.Common.{arith}
use Rattle.std.proofs.lemmas.Grind.{common_steps}
use Rattle.thy_gap.proofs.registers.Registers.start_moved.Goals as goal

pub returns-then-around : goal.returns-then-around
returns-then-around c = grind (arith, common_steps)

pub returns-else-around : goal.returns-else-around
returns-else-around c = grind (arith, common_steps)
