use Rattle.thy_images.proofs.JournalLayoutLemmas.{journal_are_layouts}
use Rattle.thy_images.proofs.journal.images.JournalImagesImageLayout.recall_laws.Goals as goal

pub returns : goal.returns
returns c = journal_are_layouts
