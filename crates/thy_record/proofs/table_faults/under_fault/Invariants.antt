use Rattle.std.proofs.Common.{◌≡◌, drop}
use Rattle.thy_layout.specs.Files.{table_in}
use Rattle.thy_layout.specs.EntryFaults.{first_clash}
use Rattle.thy_record.specs.TableFaults.{under_rule}
use Rattle.thy_record.proofs.table_faults.under_fault.Given as goal

abbrev pub invariant-loop-i : goal.invariant-loop-i
invariant-loop-i l =
    first_clash (under_rule (table_in l.ptt)) 0 (table_in l.btt) ≡ first_clash (under_rule (table_in l.ptt)) l.i (drop l.i (table_in l.btt))
