use Rattle.std.proofs.Common.{◌≡◌, ◌++◌, string_bytes}
use Rattle.std.specs.List.{flat_map}
use Rattle.observe.specs.Sections.{pcs_row}
use Rattle.observe.proofs.sections.add_rows.Given as goal

abbrev pub invariant-loop-pc : goal.invariant-loop-pc
invariant-loop-pc l = string_bytes l.text ++ flat_map pcs_row l.pc-iterator ≡ string_bytes l.fn.text ++ flat_map pcs_row l.counts.entries
