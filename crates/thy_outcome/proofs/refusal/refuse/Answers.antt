use Rattle.std.proofs.Common.{rules}
use Rattle.thy_outcome.proofs.refusal.refuse.Goals as goal

pub returns-clause-closes : goal.returns-clause-closes
returns-clause-closes g c = search rules
