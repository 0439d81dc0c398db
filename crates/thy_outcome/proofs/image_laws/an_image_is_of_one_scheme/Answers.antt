use Rattle.thy_outcome.proofs.OwnLemmas.{image_is_of_one, file_is_of_one}
use Rattle.thy_outcome.proofs.image_laws.an_image_is_of_one_scheme.Goals as goal

pub returns-clause-image : goal.returns-clause-image
returns-clause-image c = λ p q low high e f image s t. image_is_of_one p q low high e f image s t

pub returns-clause-file : goal.returns-clause-file
returns-clause-file c = λ p q low high e f bytes s t. file_is_of_one p q low high e f bytes s t
