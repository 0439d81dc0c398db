use Rattle.std.proofs.Common.{rules}
use Rattle.thy_text.proofs.memory_digest.digest.Goals as goal

pub returns : goal.returns
returns c = search rules
