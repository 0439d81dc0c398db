use Rattle.std.proofs.Common.{◌≡◌, OnOk, subst}
use Rattle.thy_block.specs.Device.{Device}
use Rattle.thy_shadow_parts.specs.State.{State}
use Rattle.thy_shadow_parts.specs.Stores.{after_store}
use Rattle.thy_machine_tests.proofs.PoolLemmas.{AreParts-store}
use Rattle.thy_machine_tests.proofs.pool.parts.Parts.store.Goals as goal

pub invariant_of-self : goal.invariant_of-self
invariant_of-self g c =
    let n : Device = c.self.inside.nvm.device in
    let new : Device = c.store.new.nvm.device in
    let s : State = c.store.new.self in
    let stored : State = after_store c.args.b c.args.block.now n c.self.inside.pool in
    let is : s ≡ stored = subst (λ r. OnOk r (s ≡ stored)) c.expect-stored.ensures c.store.ensures.pool in
    let same : new ≡ n = subst (λ r. OnOk r (new ≡ n)) c.expect-stored.ensures c.store.ensures.same in
    AreParts-store c.self.inside.geometry c.self.inside.pool s c.self.inside.engine n new c.self.inside.cuts c.args.b c.args.block.now
    c.self.invariant c.is_idle.ensures c.recall_sound.ensures is same c.store.ensures.frame
