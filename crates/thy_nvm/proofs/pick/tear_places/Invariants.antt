use Rattle.std.proofs.Common.{◌≡◌, ◌<◌, ◌≤◌, ◌++◌, ℕ, length, take, drop}
use Rattle.thy_block.specs.Device.{IsMadeOf, possible, block_at}
use Rattle.thy_dram.specs.Held.{device_of}
use Rattle.thy_nvm.specs.Pick.{torn}
use Rattle.thy_nvm.proofs.pick.tear_places.Given as goal

abbrev pub invariant-loop-x : goal.invariant-loop-x
invariant-loop-x l = record {
  image : take l.x l.ring.image ++ torn l.draws l.x (drop l.x l.ring.image) l.ring.queue
      ≡ torn l.fn.seed 0 l.initial.ring.image l.initial.ring.queue;
  size : length l.ring.image ≡ length l.initial.ring.image;
  queue : l.ring.queue ≡ l.initial.ring.queue;
  room : l.ring.room ≡ l.initial.ring.room;
  made : (y : ℕ) → y < l.x → IsMadeOf (possible (device_of l.initial.ring) y) (block_at l.ring.image y);
  ahead : (y : ℕ) → l.x ≤ y → block_at l.ring.image y ≡ block_at l.initial.ring.image y;
}
