use Rattle.std.proofs.Common.{ap, ◌∙◌}
use Rattle.thy_block.specs.Device.{drained}
use Rattle.thy_dram.specs.Held.{as_device}
use Rattle.thy_nvm.proofs.CallLemmas.{drained-landed}
use Rattle.thy_nvm.proofs.mem_nvm.settle_half.Goals as goal

pub loop-preserved : goal.loop-preserved
loop-preserved c = c.drain.ensures ∙ ap (as_device drained) c.loop.invariant ∙ drained-landed c.loop.counter _
