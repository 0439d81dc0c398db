use Rattle.thy_journal_parts.proofs.LawLemmas.{log_is_filled}
use Rattle.thy_journal_parts.proofs.filling_laws.the_log_is_filled.Goals as goal

pub returns : goal.returns
returns c = log_is_filled
