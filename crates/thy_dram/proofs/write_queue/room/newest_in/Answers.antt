use Rattle.std.proofs.Common.{rules}
use Rattle.thy_dram.proofs.write_queue.room.newest_in.Goals as goal

pub returns-in-Some : goal.returns-in-Some
returns-in-Some c = search rules
