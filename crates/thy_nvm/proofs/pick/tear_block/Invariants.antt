use Rattle.std.proofs.Common.{◌≡◌, ◌-◌}
use Rattle.thy_block.specs.Device.{IsMadeOf, possible, block_at, queued_for}
use Rattle.thy_dram.specs.Held.{device_of}
use Rattle.thy_nvm.specs.Pick.{torn_on, after_draws}
use Rattle.thy_nvm.proofs.pick.tear_block.Given as goal

abbrev pub invariant-loop-k : goal.invariant-loop-k
invariant-loop-k l = record {
  words : torn_on (8 - l.k) l.k l.draws (block_at l.fn.ring.image l.fn.at) (queued_for l.fn.ring.queue l.fn.at) l.torn
      ≡ torn_on 8 0 l.initial.draws (block_at l.fn.ring.image l.fn.at) (queued_for l.fn.ring.queue l.fn.at) l.initial.torn;
  state : after_draws (8 - l.k) l.draws ≡ after_draws 8 l.initial.draws;
  made : IsMadeOf (possible (device_of l.fn.ring) l.fn.at) l.torn;
}
