use Rattle.std.proofs.Common.{◌≡◌, ◌∷◌, ◌≤◌, length, slice_index_or}
use Rattle.thy_block.specs.Device.{queued_for}
use Rattle.thy_dram.proofs.write_queue.queue.choice.Given as goal

abbrev pub invariant-loop-write : goal.invariant-loop-write
invariant-loop-write l = record {
  same : slice_index_or (l.chosen ∷ queued_for l.write-iterator l.at) l.left l.fn.standing
      ≡ slice_index_or (l.fn.standing ∷ queued_for l.queue.items l.at) l.initial.left l.fn.standing;
  enough : l.left ≤ length (queued_for l.write-iterator l.at);
}
