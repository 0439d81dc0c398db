use Rattle.std.proofs.Common.{◌∙◌, ℕ, ap}
use Rattle.thy_layout.specs.Files.{blocks_of}
use Rattle.thy_images.specs.ShadowSlots.{slot_fault}
use Rattle.thy_images.proofs.shadow.images.ShadowImagesImageLayout.slot_fault.Goals as goal

pub returns : goal.returns
returns c = c.slot_fault.ensures ∙ ap (λ (e : ℕ). slot_fault c.args.geometry.now c.args.ceiling e (blocks_of c.args.slot.now)) c.epoch_in.ensures
