use Rattle.std.proofs.Common.{◌≡◌, take}
use Rattle.thy_layout.specs.Files.{blocks_of}
use Rattle.thy_files.proofs.restoring.whole_blocks.Given as goal

abbrev pub invariant-loop-k : goal.invariant-loop-k
invariant-loop-k l = l.blocks.items ≡ take l.k (blocks_of l.bytes)
