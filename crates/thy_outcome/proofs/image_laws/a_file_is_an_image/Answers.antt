use Rattle.thy_outcome.proofs.LawLemmas.{file_is_image}
use Rattle.thy_outcome.proofs.image_laws.a_file_is_an_image.Goals as goal

pub returns : goal.returns
returns c = λ p low high bytes epoch s. file_is_image p low high bytes epoch s
