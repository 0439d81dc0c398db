use Rattle.std.proofs.Common.{◌≡◌, drop}
use Rattle.thy_layout.specs.Files.{blocks_of}
use Rattle.thy_images.specs.ShadowSlots.{first_stray, table_in}
use Rattle.thy_images.proofs.shadow.map.index_fault.Given as goal

abbrev pub invariant-loop-x : goal.invariant-loop-x
invariant-loop-x l =
    first_stray l.geometry 0 (table_in l.geometry (blocks_of l.slot))
    ≡ first_stray l.geometry l.x (drop l.x (table_in l.geometry (blocks_of l.slot)))
