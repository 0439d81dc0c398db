use Rattle.thy_images.proofs.JournalTableRefusalLemmas.{table_says, table_found}
use Rattle.thy_images.proofs.journal.laws.refusals_name_the_first_entries.Goals as goal

pub returns-clause-found : goal.returns-clause-found
returns-clause-found c = table_says

pub returns-clause-so : goal.returns-clause-so
returns-clause-so c = table_found
