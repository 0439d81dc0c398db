use Rattle.std.proofs.Common.{◌≡◌, OnOk, ◌∙◌, ap, subst}
use Rattle.thy_block.specs.Device.{Device}
use Rattle.thy_control.specs.Rules.{devices_after}
use Rattle.thy_control.specs.State.{State}
use Rattle.thy_control_tests.proofs.DrivenLemmas.{Drives-stays, down-after}
use Rattle.thy_control_tests.proofs.support.driven.store.Goals as goal

pub returns-clause-drives : goal.returns-clause-drives
returns-clause-drives g c =
    let s : State = c.args.control.now in
    let m : Device = g.N.Nvm.device c.args.nvm.now in
    let n : Device = g.N.Nvm.device c.store.new.nvm in
    let after : Device = (devices_after c.args.b c.args.block.now s m).nvm in
    let is : n ≡ after = subst (λ r. OnOk r (n ≡ after)) c.expect.ensures c.store.ensures.nvm in
    Drives-stays s c.store.new.self m n c.requires.drives c.store.ensures.stays
    (ap (λ (d : Device). d.down) is ∙ down-after c.args.b c.args.block.now s m)
