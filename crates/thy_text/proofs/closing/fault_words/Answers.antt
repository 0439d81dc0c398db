use Rattle.std.proofs.Common.{rules}
use Rattle.thy_text.proofs.closing.fault_words.Goals as goal

pub returns-in-Missing : goal.returns-in-Missing
returns-in-Missing c = search rules
