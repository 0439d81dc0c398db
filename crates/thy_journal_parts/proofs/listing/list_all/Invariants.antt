use Rattle.std.proofs.Common.{◌≡◌}
use Rattle.thy_layout.specs.Files.{blocks_of}
use Rattle.thy_journal_parts.specs.Listed.{ListsUpTo}
use Rattle.thy_journal_parts.proofs.listing.list_all.Given as goal

abbrev pub invariant-loop-i : goal.invariant-loop-i
invariant-loop-i l = record {
  lists : ListsUpTo l.i l.geometry (blocks_of l.slot) l.log;
  same_dram : l.log.dram ≡ l.initial.log.dram;
}
