use Rattle.std.proofs.Common.{arith}
use Rattle.thy_layout.specs.Files.{table_in}
use Rattle.thy_layout.specs.EntryFaults.{twice_rule}
use Rattle.thy_layout.proofs.ClashLemmas.{length-table_in, clash_none}
use Rattle.thy_layout.proofs.table_faults.twice_fault.Goals as goal

pub returns : goal.returns
returns c =
    clash_none (twice_rule c.args.before (table_in c.args.table.now)) (table_in c.args.table.now) c.loop-k.k
    (omega (arith, length-table_in c.args.table.now)) c.loop-k.invariant
