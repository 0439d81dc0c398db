use Rattle.std.proofs.Common.{rules}
use Rattle.thy_dram.proofs.write_queue.queue.make_room.Goals as goal

pub returns-then-len-capacity-clause-image : goal.returns-then-len-capacity-clause-image
returns-then-len-capacity-clause-image c = search rules
