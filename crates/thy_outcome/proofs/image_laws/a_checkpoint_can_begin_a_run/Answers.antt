use Rattle.thy_outcome.proofs.LawLemmas.{file_begins}
use Rattle.thy_outcome.proofs.image_laws.a_checkpoint_can_begin_a_run.Goals as goal

pub returns : goal.returns
returns c = λ p ceiling bytes epoch s. file_begins p ceiling bytes epoch s
