use Rattle.std.proofs.Common.{rules}
use Rattle.thy_layout.proofs.reader.is_enough.Goals as goal

pub returns-in-None : goal.returns-in-None
returns-in-None c = search rules
