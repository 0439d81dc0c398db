use Rattle.thy_checkpoint.proofs.SlotLemmas.{blocks_of-take}
use Rattle.thy_checkpoint.proofs.boot.first_blocks.Goals as goal

pub returns-clause-blocks : goal.returns-clause-blocks
returns-clause-blocks c = blocks_of-take c.args.bytes.now c.args.count c.requires
