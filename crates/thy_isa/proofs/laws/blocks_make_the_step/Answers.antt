use Rattle.thy_isa.proofs.BlockLaws.{state_from-step}
use Rattle.thy_isa.proofs.laws.blocks_make_the_step.Goals as goal

pub returns : goal.returns
returns c = state_from-step
