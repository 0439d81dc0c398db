use Rattle.thy_control_tests.proofs.MemoryLemmas.{IsMemory-begun}
use Rattle.thy_control_tests.proofs.support.memory.Memory.booted.Goals as goal

pub invariant_of-result : goal.invariant_of-result
invariant_of-result g c =
    IsMemory-begun c.args.geometry c.args.control c.new-engine.result c.args.nvm.device c.args.cuts c.requires.same_p c.requires.drives
    c.requires.idle c.requires.room c.new-engine.ensures c.recall_tables.ensures c.is_whole.ensures c.engine_and_controller_fit.ensures.idle
