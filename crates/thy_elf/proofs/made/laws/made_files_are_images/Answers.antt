use Rattle.thy_elf.proofs.ImageLemmas.{files_are_images}
use Rattle.thy_elf.proofs.made.laws.made_files_are_images.Goals as goal

pub returns : goal.returns
returns c = files_are_images
