use Rattle.thy_sweep.proofs.ChoiceLemmas.{numbers_images}
use Rattle.thy_sweep.proofs.choices.the_images_of_a_cut_are_numbered.Goals as goal

pub returns : goal.returns
returns c = numbers_images
