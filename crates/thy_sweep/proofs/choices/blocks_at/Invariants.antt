use Rattle.std.proofs.Common.{◌≡◌, take}
use Rattle.thy_block.specs.Device.{block_at}
use Rattle.thy_sweep.specs.Images.{choices_at}
use Rattle.thy_sweep.proofs.choices.blocks_at.Given as goal

-- the choices by the writes so far
abbrev pub invariant-loop-i : goal.invariant-loop-i
invariant-loop-i l = let n = l.nvm.device in l.blocks.items ≡ choices_at l.at (block_at n.image l.at) (take l.i n.queue)
