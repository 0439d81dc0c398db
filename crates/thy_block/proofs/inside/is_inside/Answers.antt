use Rattle.std.proofs.Common.{rules}
use Rattle.thy_block.proofs.inside.is_inside.Goals as goal

pub returns-then-n-size : goal.returns-then-n-size
returns-then-n-size c = search rules
