use Rattle.std.proofs.Common.{rules}
use Rattle.thy_nvm.proofs.mem_nvm.MemNvmNvm.fit.Goals as goal

pub returns-in-Ok-clause-exact : goal.returns-in-Ok-clause-exact
returns-in-Ok-clause-exact c = search rules
