use Rattle.std.proofs.Common.{string_bytes}
use Rattle.observe.proofs.CountLemmas.{epochs-if}
use Rattle.observe.proofs.counts.add_epochs.Goals as goal

pub returns : goal.returns
returns c =
    epochs-if c.add_last.result (string_bytes c.args.text.now) (string_bytes c.add_head.new.text) (string_bytes c.add_rows.new.text)
    (string_bytes c.add_last.new.text) c.args.rows.now c.args.last
    c.in_ok-add_head.ensures c.in_ok-add_rows.ensures c.add_last.ensures
