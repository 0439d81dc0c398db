use Rattle.std.proofs.Common.{sym, ◌∙◌, ap, subst}
use Rattle.thy_block.specs.Device.{Device}
use Rattle.thy_control.specs.State.{State}
use Rattle.thy_control_tests.specs.Driven.{Drives}
use Rattle.thy_control_tests.proofs.DrivenLemmas.{AreCopied-found, Drives-committed, way-committed}
use Rattle.thy_control_tests.proofs.support.driven.commit.Goals as goal

pub commit-requires-clause-copied : goal.commit-requires-clause-copied
commit-requires-clause-copied g c =
    AreCopied-found c.args.control.now c.copy_next-copied.new.control c.page_next-written.new.control
    (g.N.Nvm.device c.args.nvm.now) (g.N.Nvm.device c.copy_next-copied.new.nvm)
    (sym c.copy_next-copied.ensures.more ∙ c.nothing_left.ensures) c.copy_next-copied.ensures.state
    (sym c.page_next-written.ensures.more ∙ c.nothing_left-2.ensures) c.page_next-written.ensures.state

pub returns-clause-drives : goal.returns-clause-drives
returns-clause-drives g c =
    let n : Device = g.N.Nvm.device c.page_next-written.new.nvm in
    subst (λ (t : State). Drives t n) (sym c.commit.ensures.state)
    (Drives-committed c.page_next-written.new.control n c.page_next-written.ensures.drives)

pub returns-clause-idle : goal.returns-clause-idle
returns-clause-idle g c =
    ap (λ (t : State). t.under_way) c.commit.ensures.state ∙ way-committed c.page_next-written.new.control
