use Rattle.std.proofs.Common.{rules}
use Rattle.thy_dram.proofs.write_queue.room.apply_all_in.Goals as goal

pub returns-in-Some-clause-image : goal.returns-in-Some-clause-image
returns-in-Some-clause-image c = search rules
