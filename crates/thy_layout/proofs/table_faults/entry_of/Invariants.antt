use Rattle.std.proofs.Common.{ℕ, ◌<◌}
use Rattle.thy_layout.specs.Files.{table_in}
use Rattle.thy_layout.specs.Entries.{Lists}
use Rattle.thy_layout.proofs.table_faults.entry_of.Given as goal

abbrev pub invariant-loop-i : goal.invariant-loop-i
invariant-loop-i l = (k : ℕ) → k < l.i → Lists (table_in l.table) k l.number → ⊥
