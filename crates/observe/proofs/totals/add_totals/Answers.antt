use Rattle.std.proofs.Common.{string_bytes}
use Rattle.observe.specs.TotalsText.{calls_lines, cycles_line, engine_line, hart_line, shares_part, sums_line}
use Rattle.observe.proofs.HeadLemmas.{six-parts-if}
use Rattle.observe.proofs.totals.add_totals.Goals as goal

pub returns : goal.returns
returns c =
    let t = c.args.totals.now in
    six-parts-if c.add_sums.result (string_bytes c.args.text.now) (string_bytes c.add_cycles.new.text) (string_bytes c.add_hart.new.text)
    (string_bytes c.add_shares.new.text) (string_bytes c.add_engine.new.text) (string_bytes c.add_calls.new.text) (string_bytes c.add_sums.new.text)
    (cycles_line t) (hart_line t.hart) (shares_part c.args.harts t.shares) (engine_line t.engine) (calls_lines t.waiting c.args.calls.now c.args.lost)
    (sums_line c.args.events.now)
    c.in_ok-add_cycles.ensures c.in_ok-add_hart.ensures c.in_ok-add_shares.ensures c.in_ok-add_engine.ensures c.in_ok-add_calls.ensures c.add_sums.ensures
