use Rattle.std.proofs.Common.{◌≡◌, drop}
use Rattle.thy_dram.specs.Jumps.{after_bits}
use Rattle.thy_dram.proofs.jumps.state_at.Given as goal

-- the bits to come lead to the same state
abbrev pub invariant-loop-power : goal.invariant-loop-power
invariant-loop-power l = after_bits (drop l.power-index l.powers) l.left l.state ≡ after_bits l.powers l.fn.at l.fn.seed
