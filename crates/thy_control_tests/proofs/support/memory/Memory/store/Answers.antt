use Rattle.std.proofs.Common.{◌≡◌, OnOk, ◌∙◌, ap, subst}
use Rattle.thy_block.specs.Device.{Device}
use Rattle.thy_control.specs.Rules.{devices_after}
use Rattle.thy_control.specs.State.{State}
use Rattle.thy_checkpoint.specs.Progress.{Progress}
use Rattle.thy_control_tests.proofs.DrivenLemmas.{down-after}
use Rattle.thy_control_tests.proofs.MemoryLemmas.{IsMemory-stays, whole-rests}
use Rattle.thy_control_tests.proofs.support.memory.Memory.store.Goals as goal

pub invariant_of-self : goal.invariant_of-self
invariant_of-self g c =
    let s : State = c.self.inside.control in
    let e : Progress = c.self.inside.engine in
    let t : State = c.store.new.self in
    let m : Device = c.self.inside.nvm.device in
    let n : Device = c.store.new.nvm.device in
    let after : Device = (devices_after c.args.b c.args.block.now s m).nvm in
    let is : n ≡ after = subst (λ r. OnOk r (n ≡ after)) c.expect-stored.ensures c.store.ensures.nvm in
    IsMemory-stays c.self.inside.geometry e s t m n c.self.inside.cuts c.self.invariant
    (c.engine_and_controller_fit.ensures.stays e s m t n c.recall_tables.ensures (whole-rests t c.is_whole.ensures) c.self.invariant.fits c.store.ensures.stays)
    c.store.ensures.stays (ap (λ (d : Device). d.down) is ∙ down-after c.args.b c.args.block.now s m)
    c.store.ensures.frame
