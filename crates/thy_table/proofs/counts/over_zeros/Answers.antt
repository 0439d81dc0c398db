use Rattle.thy_block.specs.Device.{zero_block}
use Rattle.thy_table.proofs.counts.over_zeros.Goals as goal

pub returns : goal.returns
unfolding zero_block
returns c = c.put.ensures
