use Rattle.std.proofs.Common.{◌≡◌}
use Rattle.thy_table.proofs.MapLemmas.{mapped_to}
use Rattle.thy_control.specs.Seal.{sealed_in}
use Rattle.thy_control.proofs.seal.seal_blocks.Given as goal

abbrev pub invariant-loop-i : goal.invariant-loop-i
invariant-loop-i l = l.btt ≡ mapped_to (sealed_in l.few l.ptt) l.i l.initial.btt
