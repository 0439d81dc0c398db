use Rattle.std.proofs.Common.{arith}
use Rattle.thy_layout.specs.Files.{table_in}
use Rattle.thy_record.specs.TableFaults.{under_rule}
use Rattle.thy_layout.proofs.ClashLemmas.{length-table_in, clash_none}
use Rattle.thy_record.proofs.table_faults.under_fault.Goals as goal

pub returns : goal.returns
returns c =
    clash_none (under_rule (table_in c.args.ptt.now)) (table_in c.args.btt.now) c.loop-i.i
    (omega (arith, length-table_in c.args.btt.now)) c.loop-i.invariant
