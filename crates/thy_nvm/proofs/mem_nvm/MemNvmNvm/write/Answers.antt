use Rattle.std.proofs.Common.{refl, ap}
use Rattle.thy_block.proofs.DeviceLemmas.{no_more-written_to}
use Rattle.thy_nvm.specs.DeviceInMemory.{InMemory, written, with_write}
use Rattle.thy_nvm.proofs.CallLemmas.{HasFailedToWrite-left}
use Rattle.thy_nvm.proofs.mem_nvm.MemNvmNvm.write.Goals as goal

pub returns-clause-err : goal.returns-clause-err
returns-clause-err c =
    HasFailedToWrite-left c.args.at c.args.block.now (written c.args.at c.args.block.now) (with_write c.args.at c.args.block.now) _ _ _ _ _
    (ap (λ (m : InMemory). m.device) c.self.view_is) (λ n. no_more-written_to n c.args.at c.args.block.now)
    (λ n. record { writes = refl; wear = refl })
    c.write_unless.ensures.fails c.write_unless.ensures.leaves
