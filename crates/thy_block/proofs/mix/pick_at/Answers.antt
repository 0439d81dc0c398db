use Rattle.std.proofs.Common.{rules}
use Rattle.thy_block.proofs.mix.pick_at.Goals as goal

pub returns-else-harts-eq1 : goal.returns-else-harts-eq1
returns-else-harts-eq1 c = search rules
