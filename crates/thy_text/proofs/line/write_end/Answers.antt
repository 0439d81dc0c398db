use Rattle.std.proofs.Common.{rules}
use Rattle.thy_text.proofs.line.write_end.Goals as goal

pub returns-in-Trapped-clause-wrote : goal.returns-in-Trapped-clause-wrote
returns-in-Trapped-clause-wrote g c = search rules
