use Rattle.std.proofs.Common.{string_bytes, arith}
use Rattle.observe.specs.StateText.{reg_row}
use Rattle.observe.proofs.TextLemmas.{rows-done, rows-more}
use Rattle.observe.proofs.states.add_regs.Goals as goal

pub loop-number-preserved : goal.loop-number-preserved
loop-number-preserved c =
    rows-more (reg_row c.args.regs.now) (string_bytes c.loop-number.text) _ _ c.loop-number.number 32 (omega arith) c.in_ok-add_reg.ensures c.loop-number.invariant

pub returns : goal.returns
returns c = rows-done (reg_row c.args.regs.now) (string_bytes c.loop-number.text) _ c.loop-number.number 32 (omega arith) c.loop-number.invariant
