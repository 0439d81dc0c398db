use Rattle.thy_thynvm_parts.proofs.FitLemmas.{idle_fits, seal_fits, stays_fit}
use Rattle.thy_thynvm_parts.proofs.laws.engine_and_controller_fit.Goals as goal

pub returns-clause-idle : goal.returns-clause-idle
returns-clause-idle c = idle_fits

pub returns-clause-seal : goal.returns-clause-seal
returns-clause-seal c = seal_fits

pub returns-clause-stays : goal.returns-clause-stays
returns-clause-stays c = stays_fit
