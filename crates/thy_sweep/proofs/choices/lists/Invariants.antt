use Rattle.std.proofs.Common.{◌≡◌, drop}
use Rattle.thy_sweep.specs.Choices.{lists_block}
use Rattle.thy_sweep.proofs.choices.lists.Given as goal

-- the block was not found so far
abbrev pub invariant-loop-i : goal.invariant-loop-i
invariant-loop-i l = lists_block (drop l.i l.blocks) l.block ≡ lists_block l.blocks l.block
