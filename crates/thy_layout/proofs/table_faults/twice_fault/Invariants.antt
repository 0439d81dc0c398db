use Rattle.std.proofs.Common.{◌≡◌, drop}
use Rattle.thy_layout.specs.Files.{table_in}
use Rattle.thy_layout.specs.EntryFaults.{first_clash, twice_rule}
use Rattle.thy_layout.proofs.table_faults.twice_fault.Given as goal

abbrev pub invariant-loop-k : goal.invariant-loop-k
invariant-loop-k l =
    first_clash (twice_rule l.before (table_in l.table)) 0 (table_in l.table)
    ≡ first_clash (twice_rule l.before (table_in l.table)) l.k (drop l.k (table_in l.table))
