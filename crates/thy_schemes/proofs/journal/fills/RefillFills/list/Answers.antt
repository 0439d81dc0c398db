use Rattle.thy_layout.specs.Commit.{epoch_of}
use Rattle.thy_layout.specs.Files.{blocks_of}
use Rattle.thy_computer.specs.Safe.{ceiling}
use Rattle.thy_images.proofs.JournalSlotLemmas.{faultless_table}
use Rattle.thy_schemes.proofs.journal.fills.RefillFills.list.Goals as goal

pub list_all-requires-clause-table : goal.list_all-requires-clause-table
list_all-requires-clause-table c =
    faultless_table c.args.geometry.now ceiling (epoch_of c.args.commit.now) (blocks_of c.args.slot.now) c.requires.fits

pub returns : goal.returns
returns c = c.list_all.ensures c.args.commit.now
