use Rattle.std.proofs.Common.{rules}
use Rattle.thy_out.proofs.mem_shelf.put_first.Goals as goal

pub returns-clause-ok : goal.returns-clause-ok
returns-clause-ok c = search rules
