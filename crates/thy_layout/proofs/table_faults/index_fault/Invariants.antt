use Rattle.std.proofs.Common.{◌≡◌, drop}
use Rattle.thy_layout.specs.Files.{table_in}
use Rattle.thy_layout.specs.EntryFaults.{first_clash, index_rule}
use Rattle.thy_layout.proofs.table_faults.index_fault.Given as goal

abbrev pub invariant-loop-i : goal.invariant-loop-i
invariant-loop-i l =
    first_clash (index_rule l.before l.limit) 0 (table_in l.table) ≡ first_clash (index_rule l.before l.limit) l.i (drop l.i (table_in l.table))
