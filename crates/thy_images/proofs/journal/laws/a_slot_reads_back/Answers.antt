use Rattle.thy_images.proofs.JournalSlotLemmas.{slot_reads_back, faultless_table}
use Rattle.thy_images.proofs.journal.laws.a_slot_reads_back.Goals as goal

pub returns-clause-slot : goal.returns-clause-slot
returns-clause-slot c = slot_reads_back

pub returns-clause-table : goal.returns-clause-table
returns-clause-table c = faultless_table
