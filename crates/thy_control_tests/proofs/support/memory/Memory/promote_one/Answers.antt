use Rattle.std.proofs.Common.{◌≡◌, OnOk, ap, subst}
use Rattle.thy_block.specs.Device.{Device}
use Rattle.thy_control.specs.Promotions.{next_promotion, after_promotion}
use Rattle.thy_control.specs.State.{State}
use Rattle.thy_checkpoint.specs.Progress.{Progress}
use Rattle.thy_control_tests.proofs.MemoryLemmas.{IsMemory-stays, promoted-rests}
use Rattle.thy_control_tests.proofs.support.memory.Memory.promote_one.Goals as goal

pub invariant_of-self : goal.invariant_of-self
invariant_of-self g c =
    let s : State = c.self.inside.control in
    let e : Progress = c.self.inside.engine in
    let t : State = c.promote_one.new.self in
    let m : Device = c.self.inside.nvm.device in
    let n : Device = c.promote_one.new.nvm.device in
    let is : n ≡ m = subst (λ r. OnOk r (n ≡ m)) c.expect.ensures c.promote_one.ensures.fills.nvm in
    let made : t ≡ after_promotion (next_promotion s) s m
    = subst (λ r. OnOk r (t ≡ after_promotion (next_promotion s) s m)) c.expect.ensures c.promote_one.ensures.fills.state in
    IsMemory-stays c.self.inside.geometry e s t m n c.self.inside.cuts c.self.invariant
    (c.engine_and_controller_fit.ensures.stays e s m t n c.recall_tables.ensures
    (promoted-rests e s t m c.self.invariant.fits c.has_promotion.ensures made) c.self.invariant.fits c.promote_one.ensures.stays)
    c.promote_one.ensures.stays (ap (λ (d : Device). d.down) is) c.promote_one.ensures.fills.frame
