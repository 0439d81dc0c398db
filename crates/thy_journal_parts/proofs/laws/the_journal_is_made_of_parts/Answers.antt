use Rattle.thy_journal_parts.proofs.PartsLemmas.{are_parts}
use Rattle.thy_journal_parts.proofs.laws.the_journal_is_made_of_parts.Goals as goal

pub returns : goal.returns
returns c = are_parts
