use Rattle.thy_control_tests.proofs.MemoryLemmas.{IsMemory-drained}
use Rattle.thy_control_tests.proofs.support.memory.Memory.drain_dram.Goals as goal

pub invariant_of-self : goal.invariant_of-self
invariant_of-self c =
    IsMemory-drained c.self.inside.geometry c.self.inside.engine c.self.inside.control c.drain.new.self c.self.inside.nvm.device
    c.self.inside.cuts c.self.invariant c.drain.ensures.state
