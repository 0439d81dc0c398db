use Rattle.std.proofs.Common.{rules}
use Rattle.thy_out.proofs.mem_shelf.copied.Goals as goal

pub returns-then-bytes-limit-clause-answer : goal.returns-then-bytes-limit-clause-answer
returns-then-bytes-limit-clause-answer c = search rules
