use Rattle.thy_layout.specs.Files.{blocks_of}
use Rattle.thy_images.specs.ShadowSlots.{table_in}
use Rattle.thy_shadow_parts.specs.Listed.{HoldsMap}
use Rattle.thy_shadow_parts.proofs.listing.list_all.Given as goal

abbrev pub invariant-loop-x : goal.invariant-loop-x
invariant-loop-x l = HoldsMap l.x (table_in l.geometry (blocks_of l.slot)) l.initial.pool l.pool
