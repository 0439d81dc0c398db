use Rattle.std.proofs.Common.{arith}
use Rattle.thy_journal_parts.proofs.laws.epochs_are_short.Goals as goal

pub returns : goal.returns
returns c p = omega arith
