use Rattle.std.proofs.Common.{subst, arith}
use Rattle.std.proofs.lemmas.Bool.{ltb-true, ltb-false}
use Rattle.thy_control.specs.Rules.{IsWholeState}
use Rattle.thy_control.specs.Overlay.{IsPromoting}
use Rattle.thy_control.proofs.MarkLemmas.{IsPromoting-some, IsWholeState-none}
use Rattle.thy_control.proofs.control.Control.promoting.Goals as goal

pub returns-clause-some : goal.returns-clause-some
returns-clause-some c some =
    subst IsPromoting c.self.view_is
    (IsPromoting-some _ c.self.invariant.tables
    (omega (
      arith,
      ltb-true 0 c.self.inside.marks.promoted some,
      c.self.invariant.marks.promoted_is,
    )))

pub returns-clause-none : goal.returns-clause-none
returns-clause-none c none =
    subst IsWholeState c.self.view_is
    (IsWholeState-none _
    (omega (
      arith,
      ltb-false 0 c.self.inside.marks.promoted none,
      c.self.invariant.marks.promoted_is,
    )))
