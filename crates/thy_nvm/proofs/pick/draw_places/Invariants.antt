use Rattle.std.proofs.Common.{◌≡◌, ◌-◌, ◌++◌, length, take, drop}
use Rattle.thy_nvm.specs.Pick.{drawn}
use Rattle.thy_nvm.proofs.pick.draw_places.Given as goal

abbrev pub invariant-places : goal.invariant-places
invariant-places l = record {
  image : take l.from l.ring.image ++ drawn l.draws l.from (drop l.from l.ring.image) l.ring.queue
      ≡ drawn l.fn.seed 0 l.initial.ring.image l.initial.ring.queue;
  size : length l.ring.image ≡ length l.initial.ring.image;
  queue : l.ring.queue ≡ l.initial.ring.queue;
  room : l.ring.room ≡ l.initial.ring.room;
}

abbrev pub decreases-places : goal.decreases-places
decreases-places l = length l.ring.image - l.from
