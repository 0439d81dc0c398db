use Rattle.thy_record.proofs.TableFaultLemmas.{tables_say, found_of_says}
use Rattle.thy_record.proofs.laws.refusals_name_the_first_entries.Goals as goal

pub returns-clause-found : goal.returns-clause-found
returns-clause-found c = λ p t bad long h. tables_say p t bad long h

pub returns-clause-so : goal.returns-clause-so
returns-clause-so c = λ p t bad long s. found_of_says p t bad long s
