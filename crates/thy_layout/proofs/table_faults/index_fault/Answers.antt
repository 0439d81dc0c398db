use Rattle.std.proofs.Common.{arith}
use Rattle.thy_layout.specs.Files.{table_in}
use Rattle.thy_layout.specs.EntryFaults.{index_rule}
use Rattle.thy_layout.proofs.ClashLemmas.{length-table_in, clash_none}
use Rattle.thy_layout.proofs.table_faults.index_fault.Goals as goal

pub returns : goal.returns
returns c =
    clash_none (index_rule c.args.before c.args.limit) (table_in c.args.table.now) c.loop-i.i
    (omega (arith, length-table_in c.args.table.now)) c.loop-i.invariant
