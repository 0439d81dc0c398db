use Rattle.thy_layout.specs.Commit.{epoch_of}
use Rattle.thy_layout.specs.Files.{blocks_of}
use Rattle.thy_images.proofs.ShadowSlotLemmas.{faultless_map}
use Rattle.thy_images.proofs.shadow.images.ShadowImagesImageLayout.memory_places.Goals as goal

pub places-requires-clause-map : goal.places-requires-clause-map
places-requires-clause-map c =
    faultless_map c.args.geometry.now c.requires.fits.ceiling (epoch_of c.args.commit.now) (blocks_of c.args.slot.now) c.requires.fits.faultless

pub returns : goal.returns
returns c = c.places.ensures
