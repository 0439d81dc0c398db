use Rattle.std.proofs.Common.{sym, ◌∙◌, ap, subst}
use Rattle.thy_control.specs.State.{State}
use Rattle.thy_control_tests.specs.Driven.{Drives}
use Rattle.thy_control_tests.proofs.DrivenLemmas.{Drives-sealed, way-sealed}
use Rattle.thy_control_tests.proofs.support.driven.seal.Goals as goal

pub returns-clause-drives : goal.returns-clause-drives
returns-clause-drives g c =
    let s : State = c.args.control.now in
    λ n d. subst (λ (t : State). Drives t n) (sym c.seal.ensures.state) (Drives-sealed s n d)

pub returns-clause-way : goal.returns-clause-way
returns-clause-way g c =
    let s : State = c.args.control.now in
    ap (λ (t : State). t.under_way) c.seal.ensures.state ∙ way-sealed s
