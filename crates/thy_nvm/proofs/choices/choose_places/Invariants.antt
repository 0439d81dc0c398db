use Rattle.std.proofs.Common.{◌≡◌, ◌<◌, ◌≤◌, ℕ, length}
use Rattle.thy_block.specs.Device.{IsMadeOf, possible, block_at}
use Rattle.thy_dram.specs.Held.{device_of}
use Rattle.thy_nvm.specs.Chosen.{HasChosenWords, numbers_from}
use Rattle.thy_nvm.proofs.choices.choose_places.Given as goal

abbrev pub invariant-loop-x : goal.invariant-loop-x
invariant-loop-x l = record {
  size : length l.ring.image ≡ length l.initial.ring.image;
  queue : l.ring.queue ≡ l.initial.ring.queue;
  room : l.ring.room ≡ l.initial.ring.room;
  words : (y : ℕ) → y < l.x
      → HasChosenWords (numbers_from l.initial.choices l.initial.ring.queue y) l.initial.ring y (block_at l.ring.image y);
  taken : l.choices ≡ numbers_from l.initial.choices l.initial.ring.queue l.x;
  made : (y : ℕ) → y < l.x → IsMadeOf (possible (device_of l.initial.ring) y) (block_at l.ring.image y);
  ahead : (y : ℕ) → l.x ≤ y → block_at l.ring.image y ≡ block_at l.initial.ring.image y;
}
