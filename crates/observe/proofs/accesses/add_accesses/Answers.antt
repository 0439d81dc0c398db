use Rattle.std.proofs.Common.{string_bytes, arith}
use Rattle.observe.specs.AccessText.{access_row}
use Rattle.observe.proofs.CountLemmas.{line-more}
use Rattle.observe.proofs.accesses.add_accesses.Goals as goal

pub loop-row-preserved : goal.loop-row-preserved
loop-row-preserved c =
    line-more access_row (string_bytes c.args.table.now) (string_bytes c.loop-row.table) (string_bytes c.add_access.new.table)
    c.args.rows.now c.loop-row.row-index _ (omega arith) c.loop-row.invariant c.in_ok-add_access.ensures
