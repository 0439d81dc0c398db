use Rattle.std.proofs.Common.{string_bytes}
use Rattle.observe.proofs.CountLemmas.{row-if}
use Rattle.observe.proofs.counts.add_row.Goals as goal

pub returns : goal.returns
returns c =
    row-if c.add_waiting.result (string_bytes c.args.text.now) (string_bytes c.add_epoch.new.text) (string_bytes c.add_span.new.text)
    (string_bytes c.add_numbers.new.text) (string_bytes c.add_waiting.new.text) c.args.row.now
    c.in_ok-add_epoch.ensures c.in_ok-add_span.ensures c.in_ok-add_numbers.ensures c.add_waiting.ensures
