use Rattle.std.proofs.Common.{◌≡◌, ◌++◌, ◌-◌, ◌/◌, length, string_bytes}
use Rattle.observe.specs.StateText.{double_row, rows_from}
use Rattle.observe.proofs.states.add_doubles.Given as goal

abbrev pub invariant-loop-i : goal.invariant-loop-i
invariant-loop-i l =
    string_bytes l.text ++ rows_from (double_row l.base l.memory) l.i (length l.memory / 8 - l.i)
    ≡ string_bytes l.fn.text ++ rows_from (double_row l.base l.memory) 0 (length l.memory / 8)
