use Rattle.thy_record.proofs.IssuingLemmas.{memory_of_places, places_of_memory}
use Rattle.thy_record.proofs.laws.memory_is_read_at_its_places.Goals as goal

pub returns-clause-blocks : goal.returns-clause-blocks
returns-clause-blocks c = λ p t n memory has. memory_of_places p t n memory has

pub returns-clause-memory : goal.returns-clause-memory
returns-clause-memory c = λ p t n memory is. places_of_memory p t n memory is
