use Rattle.thy_images.proofs.JournalPartsLemmas.{issued_decodes}
use Rattle.thy_images.proofs.journal.laws.a_checkpoint_is_issued.Goals as goal

pub returns : goal.returns
returns c = λ p ceiling n cpu table epoch memory range recordable most below h header.
    issued_decodes p ceiling cpu table epoch range recordable most below h.whole n memory h header
