use Rattle.std.proofs.Common.{◌≡◌, OnOk, ◌∙◌, ap, subst}
use Rattle.thy_block.specs.Device.{Device}
use Rattle.thy_control.specs.Pages.{next_page, devices_after_write}
use Rattle.thy_control.specs.State.{State}
use Rattle.thy_control_tests.proofs.DrivenLemmas.{Drives-stays, down-write}
use Rattle.thy_control_tests.proofs.support.driven.page_next.Goals as goal

pub returns-clause-drives : goal.returns-clause-drives
returns-clause-drives g c =
    let s : State = c.args.control.now in
    let m : Device = g.N.Nvm.device c.args.nvm.now in
    let n : Device = g.N.Nvm.device c.page_next.new.nvm in
    let after : Device = devices_after_write (next_page s) s m in
    let is : n ≡ after = subst (λ r. OnOk r (n ≡ after)) c.expect.ensures c.page_next.ensures.writes.nvm in
    Drives-stays s c.page_next.new.self m n c.requires c.page_next.ensures.stays
    (ap (λ (d : Device). d.down) is ∙ down-write (next_page s) s m)
