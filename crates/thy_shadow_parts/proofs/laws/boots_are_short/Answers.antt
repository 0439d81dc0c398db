use Rattle.std.proofs.Common.{◌≡◌, arith}
use Rattle.thy_checkpoint.specs.Left.{most_migration}
use Rattle.thy_checkpoint.proofs.OlderLemmas.{numbered_never_migrate, numbered_count_none}
use Rattle.thy_shadow_parts.specs.Design.{shadow_design}
use Rattle.thy_shadow_parts.proofs.laws.boots_are_short.Goals as goal

pub returns-clause-short : goal.returns-clause-short
returns-clause-short c p =
    let none : most_migration (shadow_design.filling.layouts p) p ≡ 0 = numbered_count_none shadow_design.filling p (omega arith) in
    (omega (arith, none), omega arith)

pub returns-clause-never : goal.returns-clause-never
returns-clause-never c o s n boots =
    numbered_never_migrate shadow_design.filling o boots.images n s.boot s.control
    (λ p. omega arith) boots.sound
