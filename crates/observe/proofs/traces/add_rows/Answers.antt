use Rattle.std.proofs.Common.{string_bytes, arith}
use Rattle.observe.specs.TraceText.{trace_row}
use Rattle.observe.proofs.CountLemmas.{line-more}
use Rattle.observe.proofs.traces.add_rows.Goals as goal

pub loop-row-preserved : goal.loop-row-preserved
loop-row-preserved c =
    line-more trace_row (string_bytes c.args.text.now) (string_bytes c.loop-row.text) (string_bytes c.add_row.new.text)
    c.args.rows.now c.loop-row.row-index _ (omega arith) c.loop-row.invariant c.in_ok-add_row.ensures
