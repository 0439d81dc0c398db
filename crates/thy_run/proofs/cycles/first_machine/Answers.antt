use Rattle.std.proofs.Common.{◌∙◌}
use Rattle.thy_run.proofs.cycles.first_machine.Goals as goal

pub returns-clause-dram : goal.returns-clause-dram
returns-clause-dram g c = c.in_ok-machine.ensures.dram ∙ c.in_ok-dram.ensures.zeros
