use Rattle.std.proofs.Common.{◌≡◌, true, length, take, replicate}
use Rattle.thy_dram.specs.Merged.{merged}
use Rattle.thy_nvm.proofs.over.take_up_all.Given as goal

-- the blocks of the places so far are taken up, and all blocks are as before
abbrev pub invariant-loop-at : goal.invariant-loop-at
invariant-loop-at l = record {
  image : merged l.marks l.ring.image l.below ≡ merged l.initial.marks l.initial.ring.image l.below;
  taken : take l.at l.marks ≡ replicate l.at true;
  as_long : length l.marks ≡ length l.initial.marks;
  blocks : length l.ring.image ≡ length l.marks;
  queue : l.ring.queue ≡ l.initial.ring.queue;
  room : l.ring.room ≡ l.initial.ring.room;
}
