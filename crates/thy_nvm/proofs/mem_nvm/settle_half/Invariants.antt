use Rattle.std.proofs.Common.{◌≡◌}
use Rattle.thy_block.specs.Device.{landed}
use Rattle.thy_dram.specs.Held.{as_device}
use Rattle.thy_nvm.proofs.mem_nvm.settle_half.Given as goal

abbrev pub invariant-loop : goal.invariant-loop
invariant-loop l = l.ring ≡ as_device (landed l.counter) l.initial.ring
