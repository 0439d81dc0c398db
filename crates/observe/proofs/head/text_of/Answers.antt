use Rattle.std.proofs.Common.{string_bytes}
use Rattle.observe.proofs.HeadLemmas.{head-plain, head-run}
use Rattle.observe.proofs.head.text_of.Goals as goal

pub returns-then-asked : goal.returns-then-asked
returns-then-asked c =
    head-plain string_bytes c.plain_text.result c.args.asked c.args.tally.now c.args.calls.now c.args.events.now c.if-asked.true c.plain_text.ensures

pub returns : goal.returns
returns c =
    head-run string_bytes c.run_text.result c.args.asked c.args.tally.now c.args.calls.now c.args.events.now c.if-asked.false c.run_text.ensures
