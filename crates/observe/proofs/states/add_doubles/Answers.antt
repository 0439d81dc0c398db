use Rattle.std.proofs.Common.{◌/◌, length, string_bytes, arith}
use Rattle.observe.specs.StateText.{double_row}
use Rattle.observe.proofs.TextLemmas.{rows-done, rows-more}
use Rattle.observe.proofs.states.add_doubles.Goals as goal

pub loop-i-preserved : goal.loop-i-preserved
loop-i-preserved c =
    rows-more (double_row c.args.base c.args.memory.now) (string_bytes c.loop-i.text) _ _ c.loop-i.i (length c.args.memory.now / 8)
    (omega arith) c.in_ok-add_double.ensures c.loop-i.invariant

pub returns : goal.returns
returns c =
    rows-done (double_row c.args.base c.args.memory.now) (string_bytes c.loop-i.text) _ c.loop-i.i (length c.args.memory.now / 8) (omega arith) c.loop-i.invariant
