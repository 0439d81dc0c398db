use Rattle.std.proofs.Common.{rules, ◌/◌, length, refl, ap}
use Rattle.thy_block.specs.Device.{at_rest}
use Rattle.thy_block.proofs.DeviceLemmas.{no_more-landed}
use Rattle.thy_nvm.specs.DeviceInMemory.{InMemory, on_device, half_settled}
use Rattle.thy_nvm.proofs.CallLemmas.{HasFailedToSettle-left, IsSettled-left, IsFramed-left, IsFramed-settled, IsFramed-landed}
use Rattle.thy_nvm.proofs.mem_nvm.MemNvmNvm.barrier.Goals as goal

pub returns-clause-ok : goal.returns-clause-ok
returns-clause-ok c =
    IsSettled-left half_settled _ _ _ _ _
    (ap (λ (m : InMemory). m.device) c.self.view_is) refl c.barrier_unless.ensures.fails c.barrier_unless.ensures.leaves

pub returns-clause-err : goal.returns-clause-err
returns-clause-err c =
    HasFailedToSettle-left (on_device at_rest) half_settled _ _ _ _ _ (ap (λ (m : InMemory). m.device) c.self.view_is)
    (λ n. no_more-landed (length n.queue / 2) n)
    (λ n. record { writes = refl; wear = refl }) c.barrier_unless.ensures.fails c.barrier_unless.ensures.leaves

pub returns-clause-frame : goal.returns-clause-frame
returns-clause-frame c =
    IsFramed-left (on_device at_rest) half_settled _ _ _ _ (ap (λ (m : InMemory). m.device) c.self.view_is) (λ i. IsFramed-settled i.device)
    (λ n. IsFramed-landed (length n.queue / 2) n) c.barrier_unless.ensures.leaves

pub returns-clause-exact : goal.returns-clause-exact
returns-clause-exact c = search rules
