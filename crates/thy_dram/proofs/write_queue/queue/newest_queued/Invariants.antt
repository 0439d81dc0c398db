use Rattle.std.proofs.Common.{◌≡◌}
use Rattle.thy_block.specs.Device.{newest_over}
use Rattle.thy_dram.proofs.write_queue.queue.newest_queued.Given as goal

abbrev pub invariant-loop-write : goal.invariant-loop-write
invariant-loop-write l = newest_over l.newest l.write-iterator l.at ≡ newest_over l.initial.newest l.queue.items l.at
