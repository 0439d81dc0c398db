use Rattle.thy_images.proofs.JournalFreeLemmas.{free_not_looked}
use Rattle.thy_images.proofs.journal.laws.free_is_not_looked_at.Goals as goal

pub returns : goal.returns
returns c = λ p image epoch table x meant there free inside. free_not_looked p image epoch table x meant there free inside
