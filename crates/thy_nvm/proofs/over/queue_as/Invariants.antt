use Rattle.std.proofs.Common.{◌≡◌, length, take}
use Rattle.thy_dram.specs.Merged.{merged, AreMarked}
use Rattle.thy_nvm.proofs.over.queue_as.Given as goal

-- the writes so far are queued, and all blocks are as before
abbrev pub invariant-loop-i : goal.invariant-loop-i
invariant-loop-i l = record {
  image : merged l.marks l.ring.image l.below ≡ merged l.initial.marks l.initial.ring.image l.below;
  queue : l.ring.queue ≡ take l.i l.held.queue;
  marked : AreMarked l.marks l.ring.queue;
  as_long : length l.marks ≡ length l.initial.marks;
  blocks : length l.ring.image ≡ length l.marks;
  room : l.ring.room ≡ l.initial.ring.room;
}
