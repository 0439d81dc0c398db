use Rattle.std.proofs.Common.{rules}
use Rattle.thy_elf.proofs.segments.reached_with.Goals as goal

pub returns-then-takes_memory-clause-end : goal.returns-then-takes_memory-clause-end
returns-then-takes_memory-clause-end c = search rules
