use Rattle.std.proofs.Common.{◌≡◌, ◌+◌, ◌≤◌, length}
use Rattle.thy_block.specs.Device.{queued_for}
use Rattle.thy_dram.proofs.write_queue.queue.count_for.Given as goal

abbrev pub invariant-loop-write : goal.invariant-loop-write
invariant-loop-write l = record {
  count : l.count + length (queued_for l.write-iterator l.at) ≡ length (queued_for l.queue.items l.at);
  small : l.count + length l.write-iterator ≤ length l.queue.items;
}
