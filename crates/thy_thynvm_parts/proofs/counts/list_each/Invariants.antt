use Rattle.thy_layout.specs.Files.{blocks_of}
use Rattle.thy_thynvm_parts.proofs.BootSlotLemmas.{HasFirstCounts}
use Rattle.thy_thynvm_parts.proofs.counts.list_each.Given as goal

abbrev pub invariant-loop-page : goal.invariant-loop-page
invariant-loop-page l = HasFirstCounts l.geometry (blocks_of l.slot) l.page l.initial.control l.control
