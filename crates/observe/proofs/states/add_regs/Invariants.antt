use Rattle.std.proofs.Common.{◌≡◌, ◌++◌, ◌-◌, string_bytes}
use Rattle.observe.specs.StateText.{reg_row, rows_from}
use Rattle.observe.proofs.states.add_regs.Given as goal

abbrev pub invariant-loop-number : goal.invariant-loop-number
invariant-loop-number l = string_bytes l.text ++ rows_from (reg_row l.regs) l.number (32 - l.number) ≡ string_bytes l.fn.text ++ rows_from (reg_row l.regs) 1 31
