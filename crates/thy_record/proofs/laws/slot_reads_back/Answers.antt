use Rattle.thy_record.proofs.SlotLemmas.{slot_back, table_block_of-entries}
use Rattle.thy_record.proofs.laws.slot_reads_back.Goals as goal

pub returns-clause-entries : goal.returns-clause-entries
returns-clause-entries c = λ t k entries is. table_block_of-entries t k entries is

pub returns-clause-slot : goal.returns-clause-slot
returns-clause-slot c = λ p ceiling cpu t counts epoch slot r recordable s are most l of.
    slot_back p ceiling cpu t counts epoch slot r recordable s are most l of
