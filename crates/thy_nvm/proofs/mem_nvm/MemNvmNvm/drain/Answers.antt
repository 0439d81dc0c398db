use Rattle.std.proofs.Common.{refl, ap}
use Rattle.thy_block.specs.Device.{drained}
use Rattle.thy_block.proofs.DeviceLemmas.{no_more-drained}
use Rattle.thy_nvm.specs.DeviceInMemory.{InMemory, on_device}
use Rattle.thy_nvm.proofs.CallLemmas.{HasFailed-left}
use Rattle.thy_nvm.proofs.mem_nvm.MemNvmNvm.drain.Goals as goal

pub returns-clause-err : goal.returns-clause-err
returns-clause-err c =
    HasFailed-left (on_device drained) drained _ _ _ _ _ (ap (λ (m : InMemory). m.device) c.self.view_is) no_more-drained
    (λ n. record { writes = refl; wear = refl }) c.drain_unless.ensures.fails
    c.drain_unless.ensures.leaves
