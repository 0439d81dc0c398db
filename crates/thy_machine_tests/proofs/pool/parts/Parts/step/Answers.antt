use Rattle.std.proofs.Common.{◌≡◌, OnOk, subst}
use Rattle.thy_block.specs.Device.{Device}
use Rattle.thy_computer.specs.Action.{IsAfter}
use Rattle.thy_checkpoint.specs.Progress.{Progress, control_next, action_next}
use Rattle.thy_shadow_parts.specs.State.{State}
use Rattle.thy_shadow_parts.specs.Filling.{filling_shadow}
use Rattle.thy_shadow_parts.specs.Design.{items_shadow}
use Rattle.thy_machine_tests.proofs.PoolLemmas.{AreParts-item}
use Rattle.thy_machine_tests.proofs.pool.parts.Parts.step.Goals as goal

pub invariant_of-self : goal.invariant_of-self
invariant_of-self g c =
    let s : State = c.self.inside.pool in
    let e : Progress = c.self.inside.engine in
    let n : Device = c.self.inside.nvm.device in
    let t : State = c.step.new.control in
    let m : Device = c.step.new.nvm.device in
    let control : t ≡ control_next items_shadow e s
    = subst (λ r. OnOk r (t ≡ control_next items_shadow e s)) c.expect.ensures c.step.ensures.control in
    let device : IsAfter (action_next filling_shadow items_shadow e s n) n m
    = subst (λ r. OnOk r (IsAfter (action_next filling_shadow items_shadow e s n) n m)) c.expect.ensures c.step.ensures.device in
    AreParts-item c.self.inside.geometry s t e c.step.new.self n m c.self.inside.cuts c.self.invariant control c.step.ensures.fits device
    c.step.ensures.frame
