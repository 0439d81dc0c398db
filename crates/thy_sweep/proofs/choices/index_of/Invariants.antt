use Rattle.std.proofs.Common.{◌≡◌, ◌+◌, drop}
use Rattle.thy_sweep.specs.Choices.{index_of}
use Rattle.thy_sweep.proofs.choices.index_of.Given as goal

-- the block was not found so far
abbrev pub invariant-loop-i : goal.invariant-loop-i
invariant-loop-i l = l.i + index_of (drop l.i l.blocks) l.block ≡ index_of l.blocks l.block
