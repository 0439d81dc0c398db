use Rattle.std.proofs.Common.{◌≡◌, OnOk, ◌∙◌, ap, subst}
use Rattle.thy_block.specs.Device.{Device}
use Rattle.thy_control.specs.Copies.{next_copy, devices_after_copy}
use Rattle.thy_control.specs.State.{State}
use Rattle.thy_control_tests.proofs.DrivenLemmas.{Drives-stays, down-copy}
use Rattle.thy_control_tests.proofs.support.driven.copy_next.Goals as goal

pub returns-clause-drives : goal.returns-clause-drives
returns-clause-drives g c =
    let s : State = c.args.control.now in
    let m : Device = g.N.Nvm.device c.args.nvm.now in
    let n : Device = g.N.Nvm.device c.copy_next.new.nvm in
    let after : Device = devices_after_copy (next_copy s) s m in
    let is : n ≡ after = subst (λ r. OnOk r (n ≡ after)) c.expect.ensures c.copy_next.ensures.copies.nvm in
    Drives-stays s c.copy_next.new.self m n c.requires c.copy_next.ensures.stays
    (ap (λ (d : Device). d.down) is ∙ down-copy (next_copy s) s m)
