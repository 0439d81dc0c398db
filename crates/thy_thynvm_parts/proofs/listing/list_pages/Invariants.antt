use Rattle.thy_layout.specs.Files.{blocks_of}
use Rattle.thy_record.specs.Slots.{tables_in}
use Rattle.thy_thynvm_parts.specs.Listed.{AsListed}
use Rattle.thy_thynvm_parts.proofs.listing.list_pages.Given as goal

abbrev pub invariant-loop-j : goal.invariant-loop-j
invariant-loop-j l = AsListed l.geometry.btt l.j (tables_in l.geometry (blocks_of l.slot)) l.initial.control l.control
