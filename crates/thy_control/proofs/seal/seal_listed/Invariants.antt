use Rattle.std.proofs.Common.{◌≡◌}
use Rattle.thy_table.proofs.MapLemmas.{mapped_to}
use Rattle.thy_control.specs.Seal.{sealed_as_counted}
use Rattle.thy_control.proofs.seal.seal_listed.Given as goal

abbrev pub invariant-loop-j : goal.invariant-loop-j
invariant-loop-j l = l.ptt ≡ mapped_to (sealed_as_counted l.counts) l.j l.initial.ptt
