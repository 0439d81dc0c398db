use Rattle.thy_images.proofs.ShadowSlotLemmas.{slot_reads_back, faultless_map}
use Rattle.thy_images.proofs.shadow.laws.a_slot_reads_back.Goals as goal

pub returns-clause-slot : goal.returns-clause-slot
returns-clause-slot c = slot_reads_back

pub returns-clause-map : goal.returns-clause-map
returns-clause-map c = faultless_map
