use Rattle.thy_images.proofs.ShadowLayoutLemmas.{shadow_are_layouts}
use Rattle.thy_images.proofs.shadow.images.ShadowImagesImageLayout.recall_laws.Goals as goal

pub returns : goal.returns
returns c = shadow_are_layouts
