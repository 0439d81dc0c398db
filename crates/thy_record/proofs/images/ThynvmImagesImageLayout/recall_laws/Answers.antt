use Rattle.thy_record.proofs.IssuingLemmas.{thynvm_are_layouts}
use Rattle.thy_record.proofs.images.ThynvmImagesImageLayout.recall_laws.Goals as goal

pub returns : goal.returns
returns c = thynvm_are_layouts
