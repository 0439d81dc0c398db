use Rattle.std.proofs.Common.{rules}
use Rattle.thy_record.proofs.slot.is_bad_count.Goals as goal

pub returns-then-i-numbers : goal.returns-then-i-numbers
returns-then-i-numbers c = search rules

pub returns-else-i-numbers : goal.returns-else-i-numbers
returns-else-i-numbers c = search rules

pub returns-then-count-gt63 : goal.returns-then-count-gt63
returns-then-count-gt63 c = search rules
