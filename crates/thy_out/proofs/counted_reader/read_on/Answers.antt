use Rattle.std.proofs.Common.{rules}
use Rattle.thy_out.proofs.counted_reader.read_on.Goals as goal

pub returns-then-ne-clause-retried : goal.returns-then-ne-clause-retried
returns-then-ne-clause-retried g c = search rules
