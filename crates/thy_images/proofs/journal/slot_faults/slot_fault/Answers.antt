use Rattle.std.proofs.Common.{◌∙◌, Option, ap}
use Rattle.thy_layout.specs.declared.bad_image.BadImage.{BadImage}
use Rattle.thy_layout.specs.Files.{blocks_of}
use Rattle.thy_layout.specs.TableSlots.{slot_fault_by}
use Rattle.thy_images.specs.JournalSlots.{slot_fault}
use Rattle.thy_images.proofs.journal.slot_faults.slot_fault.Goals as goal

pub returns : goal.returns
unfolding slot_fault
returns c =
    c.fault_with_table.ensures
    ∙ ap (λ (t : Option BadImage). slot_fault_by t c.args.geometry.now c.args.ceiling c.args.epoch (blocks_of c.args.slot.now)) c.table_fault.ensures
