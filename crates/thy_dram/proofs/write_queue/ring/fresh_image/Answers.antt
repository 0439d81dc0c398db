use Rattle.std.proofs.Common.{arith}
use Rattle.std.proofs.lemmas.Grind.{common_steps}
use Rattle.thy_block.specs.Device.{zero_block}
use Rattle.thy_dram.proofs.write_queue.ring.fresh_image.Goals as goal

pub returns : goal.returns
unfolding zero_block
returns c = grind (arith, common_steps)
