use Rattle.thy_control_tests.proofs.MemoryLemmas.{IsMemory-sealed}
use Rattle.thy_control_tests.proofs.support.memory.Memory.seal.Goals as goal

pub invariant_of-self : goal.invariant_of-self
invariant_of-self g c =
    IsMemory-sealed c.self.inside.geometry c.self.inside.engine c.begin.new.self c.self.inside.control c.seal.new.self c.self.inside.nvm.device
    c.self.inside.cuts c.args.epoch c.cpu_at.result c.self.invariant c.seal.ensures.state c.begin.ensures c.recall_tables.ensures c.seal.ensures.idle
    c.engine_and_controller_fit.ensures.seal
