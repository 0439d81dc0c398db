use Rattle.std.proofs.Common.{◌*◌, ◌∙◌, ℕ, sym, ap, arith}
use Rattle.thy_layout.specs.declared.layout_version.LayoutVersion.{LayoutVersion}
use Rattle.thy_record.specs.VersionSlots.{blocks_of_slot}
use Rattle.thy_layout.specs.Commit.{version_of}
use Rattle.thy_layout.specs.Files.{blocks_of}
use Rattle.thy_record.specs.Number.{scheme_number}
use Rattle.thy_record.specs.Slots.{slot_fault}
use Rattle.thy_record.proofs.IssuingLemmas.{least_slot}
use Rattle.thy_record.proofs.images.ThynvmImagesImageLayout.slot_fault.Goals as goal

pub slot_fault-requires-clause-slot : goal.slot_fault-requires-clause-slot
slot_fault-requires-clause-slot c =
    c.requires ∙ ap (λ (f : LayoutVersion). 64 * blocks_of_slot f c.args.geometry.now) (sym c.version_of-version.ensures)

pub slot_fault-requires-clause-room : goal.slot_fault-requires-clause-room
slot_fault-requires-clause-room c = omega (arith, c.requires, least_slot c.args.geometry.now c.args.commit.now)

pub returns : goal.returns
returns c =
    c.slot_fault.ensures
    ∙ ap (λ (f : LayoutVersion). slot_fault f c.args.geometry.now c.args.ceiling c.epoch_in.result
    (blocks_of c.args.slot.now)) c.version_of-version.ensures
    ∙ ap (λ (e : ℕ). slot_fault (version_of scheme_number c.args.geometry.now c.args.commit.now) c.args.geometry.now c.args.ceiling e
    (blocks_of c.args.slot.now))
    c.epoch_in.ensures
