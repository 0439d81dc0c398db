use Rattle.thy_layout.specs.Files.{blocks_of}
use Rattle.thy_record.specs.Slots.{tables_in}
use Rattle.thy_thynvm_parts.specs.Listed.{AsListed}
use Rattle.thy_thynvm_parts.proofs.listing.list_blocks.Given as goal

abbrev pub invariant-loop-i : goal.invariant-loop-i
invariant-loop-i l = AsListed l.i 0 (tables_in l.geometry (blocks_of l.slot)) l.initial.control l.control
