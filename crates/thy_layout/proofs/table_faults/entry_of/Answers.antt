use Rattle.std.proofs.Common.{◌∙◌, Some, sym, ap, arith}
use Rattle.thy_layout.specs.Files.{table_in}
use Rattle.thy_layout.proofs.ClashLemmas.{length-table_in}
use Rattle.thy_layout.proofs.EntryLemmas.{entry_of-found, entry_of-none}
use Rattle.thy_layout.proofs.table_faults.entry_of.Goals as goal

pub returns-in-loop-i : goal.returns-in-loop-i
returns-in-loop-i c =
    entry_of-found (table_in c.args.table.now) c.args.number c.loop-i.i c.loop-i.invariant
    (record { is = sym c.in-Some.ensures ∙ ap Some c.if-listed-number.true })

pub returns : goal.returns
returns c =
    entry_of-none (table_in c.args.table.now) c.args.number c.loop-i.i (omega (arith, length-table_in c.args.table.now)) c.loop-i.invariant
