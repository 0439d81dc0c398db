use Rattle.std.proofs.Common.{◌≡◌, OnOk, ◌∙◌, ap, subst}
use Rattle.thy_block.specs.Device.{Device}
use Rattle.thy_table.specs.Places.{image_blocks}
use Rattle.thy_control.specs.State.{State}
use Rattle.thy_thynvm_parts.specs.Design.{items_thynvm}
use Rattle.thy_checkpoint.specs.Progress.{Progress, action_next, engine_next}
use Rattle.thy_thynvm_parts.specs.Filling.{filling_thynvm}
use Rattle.thy_computer.specs.Action.{IsAfter}
use Rattle.thy_control_tests.proofs.MemoryLemmas.{IsMemory-item}
use Rattle.thy_control_tests.proofs.support.memory.Memory.step.Goals as goal

pub step-requires-clause-sized : goal.step-requires-clause-sized
step-requires-clause-sized g c = c.self.invariant.drives.sized.nvm ∙ ap image_blocks c.self.invariant.fits.same_p

pub invariant_of-self : goal.invariant_of-self
invariant_of-self g c =
    let s : State = c.self.inside.control in
    let e : Progress = c.self.inside.engine in
    let m : Device = c.self.inside.nvm.device in
    let f : Progress = c.step.new.self in
    let n : Device = c.step.new.nvm.device in
    let engine : f ≡ engine_next filling_thynvm items_thynvm e s
    = subst (λ r. OnOk r (f ≡ engine_next filling_thynvm items_thynvm e s)) c.expect.ensures c.step.ensures.engine in
    IsMemory-item c.self.inside.geometry e f s c.step.new.control m n c.self.inside.cuts c.self.invariant c.step.ensures.fits
    (ap (λ (x : Progress). x.p) engine)
    (subst (λ r. OnOk r (IsAfter (action_next filling_thynvm items_thynvm e s m) m n)) c.expect.ensures c.step.ensures.device) c.step.ensures.frame
