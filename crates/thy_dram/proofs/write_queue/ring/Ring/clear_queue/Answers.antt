use Rattle.std.proofs.Common.{rules}
use Rattle.thy_dram.proofs.write_queue.ring.Ring.clear_queue.Goals as goal

pub returns : goal.returns
returns c = search rules
