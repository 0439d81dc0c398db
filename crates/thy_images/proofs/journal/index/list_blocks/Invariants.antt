use Rattle.std.proofs.Common.{◌≡◌, take}
use Rattle.thy_layout.specs.Files.{blocks_of}
use Rattle.thy_images.specs.JournalCheckpointParts.{memory_places}
use Rattle.thy_images.specs.JournalSlots.{table_in}
use Rattle.thy_images.proofs.journal.index.list_blocks.Given as goal

abbrev pub invariant-loop-i : goal.invariant-loop-i
invariant-loop-i l = l.index ≡ memory_places l.geometry l.s (take l.i (table_in l.geometry (blocks_of l.slot)))
