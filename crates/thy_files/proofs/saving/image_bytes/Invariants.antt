use Rattle.std.proofs.Common.{◌≡◌, take}
use Rattle.thy_block.specs.Flat.{flat}
use Rattle.thy_outcome.specs.Saving.{image_left}
use Rattle.thy_files.proofs.saving.image_bytes.Given as goal

abbrev pub invariant-loop-at : goal.invariant-loop-at
invariant-loop-at g l = l.bytes.items ≡ flat (take l.at (image_left (g.N.Nvm.device l.nvm) l.i))
