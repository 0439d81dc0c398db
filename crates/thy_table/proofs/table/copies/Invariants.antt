use Rattle.std.proofs.Common.{◌≡◌, replicate}
use Rattle.thy_table.proofs.table.copies.Given as goal

abbrev pub invariant-loop-i : goal.invariant-loop-i
invariant-loop-i g l = l.all.items ≡ replicate l._i l.x
