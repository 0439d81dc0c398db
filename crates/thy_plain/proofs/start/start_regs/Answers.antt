use Rattle.std.proofs.Common.{rules}
use Rattle.thy_plain.specs.Start.{start_regs}
use Rattle.thy_plain.proofs.start.start_regs.Goals as goal

pub returns-clause-regs : goal.returns-clause-regs
unfolding start_regs
returns-clause-regs c = search rules
