use Rattle.std.proofs.Common.{arith}
use Rattle.thy_layout.specs.Commit.{epoch_of, version_of}
use Rattle.thy_layout.specs.Files.{blocks_of}
use Rattle.thy_record.specs.Number.{scheme_number}
use Rattle.thy_record.proofs.SlotLemmas.{tables_of_slot}
use Rattle.thy_record.proofs.IssuingLemmas.{least_slot}
use Rattle.thy_record.proofs.images.ThynvmImagesImageLayout.memory_places.Goals as goal

pub places-requires-clause-slot : goal.places-requires-clause-slot
places-requires-clause-slot c = omega (arith, c.requires.slot, least_slot c.args.geometry.now c.args.commit.now)

pub places-requires-clause-tables : goal.places-requires-clause-tables
places-requires-clause-tables c =
    tables_of_slot (version_of scheme_number c.args.geometry.now c.args.commit.now) c.args.geometry.now c.requires.fits.ceiling
    (epoch_of c.args.commit.now) (blocks_of c.args.slot.now) c.requires.fits.faultless

pub returns : goal.returns
returns c = c.places.ensures
