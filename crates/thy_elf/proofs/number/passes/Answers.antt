use Rattle.std.proofs.Common.{rules}
use Rattle.thy_elf.proofs.number.passes.Goals as goal

pub returns-else-end-from : goal.returns-else-end-from
returns-else-end-from c = search rules
