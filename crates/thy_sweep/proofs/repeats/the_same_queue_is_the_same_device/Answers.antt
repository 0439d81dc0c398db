use Rattle.thy_sweep.proofs.RepeatLemmas.{same_queue}
use Rattle.thy_sweep.proofs.repeats.the_same_queue_is_the_same_device.Goals as goal

pub returns : goal.returns
returns c = same_queue
