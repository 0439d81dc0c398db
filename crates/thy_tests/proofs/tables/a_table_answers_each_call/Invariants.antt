use Rattle.std.proofs.Common.{◌≡◌}
use Rattle.thy_tests.proofs.tables.a_table_answers_each_call.Given as goal

abbrev pub invariant-loop-row : goal.invariant-loop-row
invariant-loop-row g l = l.table.numbers ≡ 8
