use Rattle.std.proofs.Common.{◌≡◌, ◌%◌, ℕ, IfOk, subst}
use Rattle.thy_layout.specs.Commit.{epoch_of}
use Rattle.thy_layout.specs.Files.{blocks_of}
use Rattle.thy_images.specs.JournalCheckpointParts.{memory_places}
use Rattle.thy_images.specs.JournalSlots.{table_in}
use Rattle.thy_images.proofs.JournalSlotLemmas.{faultless_table}
use Rattle.thy_images.proofs.journal.images.JournalImagesImageLayout.memory_places.Goals as goal

pub places-requires-clause-table : goal.places-requires-clause-table
places-requires-clause-table c =
    faultless_table c.args.geometry.now c.requires.fits.ceiling (epoch_of c.args.commit.now) (blocks_of c.args.slot.now) c.requires.fits.faultless

pub returns : goal.returns
returns c =
    subst (λ (e : ℕ). IfOk c.places.result
    (λ v. v.items ≡ memory_places c.args.geometry.now (e % 2) (table_in c.args.geometry.now (blocks_of c.args.slot.now))))
    c.epoch_in.ensures
    (subst (λ (s : ℕ). IfOk c.places.result (λ v. v.items ≡ memory_places c.args.geometry.now s (table_in c.args.geometry.now (blocks_of c.args.slot.now)))) c.slot_of_epoch.ensures.slot c.places.ensures)
