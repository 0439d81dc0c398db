use Rattle.thy_base.proofs.ConfigLemmas.{faultless_rows}
use Rattle.thy_base.proofs.configuration.ConfigConfiguration.first_fault.Goals as goal

pub returns-clause-faultless : goal.returns-clause-faultless
returns-clause-faultless c = faultless_rows c.args.self.now
