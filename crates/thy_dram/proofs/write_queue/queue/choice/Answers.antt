use Rattle.std.proofs.Common.{rules}
use Rattle.thy_dram.proofs.write_queue.queue.choice.Goals as goal

pub loop-write-preserved-then-write-at : goal.loop-write-preserved-then-write-at
loop-write-preserved-then-write-at c = search rules
