use Rattle.thy_record.proofs.IssuingLemmas.{IsUnused-listed_home, IsUnused-paged_home, IsUnused-empty_entry, IsUnused-empty_page}
use Rattle.thy_record.proofs.laws.unused_places.Goals as goal

pub returns-clause-listed_home : goal.returns-clause-listed_home
returns-clause-listed_home c = λ p t i b l. IsUnused-listed_home p t i b l

pub returns-clause-paged_home : goal.returns-clause-paged_home
returns-clause-paged_home c = λ p t j b l. IsUnused-paged_home p t j b l

pub returns-clause-empty_entry : goal.returns-clause-empty_entry
returns-clause-empty_entry c = λ p t i e. IsUnused-empty_entry p t i e

pub returns-clause-empty_page : goal.returns-clause-empty_page
returns-clause-empty_page c = λ p t j k e. IsUnused-empty_page p t j k e
