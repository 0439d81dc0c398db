use Rattle.std.proofs.Common.{subst, arith}
use Rattle.std.proofs.lemmas.Bool.{ltb-true, ltb-false}
use Rattle.thy_control.specs.Seal.{IsBareState}
use Rattle.thy_control.specs.Overlay.{IsOverlaid}
use Rattle.thy_control.proofs.MarkLemmas.{IsOverlaid-some, IsBareState-none}
use Rattle.thy_control.proofs.control.Control.overlay.Goals as goal

pub returns-clause-some : goal.returns-clause-some
returns-clause-some c some =
    subst IsOverlaid c.self.view_is
    (IsOverlaid-some _ c.self.invariant.tables
    (omega (
      arith,
      ltb-true 0 c.self.inside.marks.overlaid some,
      c.self.invariant.marks.overlaid_is,
    )))

pub returns-clause-none : goal.returns-clause-none
returns-clause-none c none =
    subst IsBareState c.self.view_is
    (IsBareState-none _
    (omega (
      arith,
      ltb-false 0 c.self.inside.marks.overlaid none,
      c.self.invariant.marks.overlaid_is,
    )))
