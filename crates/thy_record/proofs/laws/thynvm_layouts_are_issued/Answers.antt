use Rattle.thy_record.proofs.ThynvmPartsLemmas.{issued_decodes}
use Rattle.thy_record.proofs.laws.thynvm_layouts_are_issued.Goals as goal

pub returns : goal.returns
returns c = issued_decodes
