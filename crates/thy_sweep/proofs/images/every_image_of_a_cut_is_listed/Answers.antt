use Rattle.thy_sweep.proofs.ImageLemmas.{lists_crashes, lists_each_once, counts_images}
use Rattle.thy_sweep.proofs.images.every_image_of_a_cut_is_listed.Goals as goal

pub returns : goal.returns
returns c = record { crashes = lists_crashes; once = lists_each_once; count = counts_images }
