use Rattle.thy_thynvm_parts.proofs.DesignLemmas.{is_design}
use Rattle.thy_thynvm_parts.proofs.laws.the_checkpoints_are_lawful.Goals as goal

pub returns : goal.returns
returns c = is_design
