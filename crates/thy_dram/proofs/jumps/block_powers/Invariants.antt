use Rattle.std.proofs.Common.{◌≡◌, ◌-◌, ◌++◌}
use Rattle.thy_dram.specs.Jumps.{doublings, block_powers}
use Rattle.thy_dram.proofs.jumps.block_powers.Given as goal

-- the jumps so far, and those to come
abbrev pub invariant-loop : goal.invariant-loop
invariant-loop l = l.powers.items ++ doublings (64 - l.counter) l.jump ≡ block_powers
