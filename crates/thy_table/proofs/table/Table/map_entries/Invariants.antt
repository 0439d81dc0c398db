use Rattle.std.proofs.Common.{◌≡◌}
use Rattle.thy_table.proofs.MapLemmas.{mapped_to}
use Rattle.thy_table.proofs.table.Table.map_entries.Given as goal

abbrev pub invariant-loop-i : goal.invariant-loop-i
invariant-loop-i g l = l.self ≡ mapped_to (g.R.Rule.gives l.rule) l.i l.initial.self
