use Rattle.std.proofs.Common.{string_bytes}
use Rattle.observe.proofs.CountLemmas.{both-counts}
use Rattle.observe.proofs.SectionLemmas.{some-weaker}
use Rattle.observe.proofs.counts.with_counts.Goals as goal

pub returns : goal.returns
returns c =
    some-weaker c.with_epochs.result _ _ (λ whole h.
    both-counts c.args.options c.args.watch.now (string_bytes c.args.text) (string_bytes c.in_ok-text.text) (string_bytes whole) c.in_ok-text.ensures h)
    c.with_epochs.ensures
