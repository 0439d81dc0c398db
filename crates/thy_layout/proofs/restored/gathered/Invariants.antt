use Rattle.std.proofs.Common.{◌≡◌, map, take, drop}
use Rattle.thy_block.specs.Device.{block_at}
use Rattle.thy_block.specs.Flat.{flat}
use Rattle.thy_layout.specs.Files.{blocks_of}
use Rattle.thy_layout.proofs.restored.gathered.Given as goal

abbrev pub invariant-loop-k : goal.invariant-loop-k
invariant-loop-k l = l.bytes.items ≡ flat (take l.k (drop l.first (map (block_at (blocks_of l.image)) l.places)))
