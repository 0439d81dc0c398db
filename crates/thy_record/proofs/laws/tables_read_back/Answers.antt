use Rattle.thy_record.proofs.SlotLemmas.{tables_back}
use Rattle.thy_layout.proofs.EntryWordLemmas.{entry_back}
use Rattle.thy_record.proofs.laws.tables_read_back.Goals as goal

pub returns-clause-entries : goal.returns-clause-entries
returns-clause-entries c = λ entries i have l. entry_back entries i have l

pub returns-clause-tables : goal.returns-clause-tables
returns-clause-tables c = λ p t slot r fit of. tables_back p t slot r fit of
