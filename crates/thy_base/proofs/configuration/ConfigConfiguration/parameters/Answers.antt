use Rattle.thy_base.specs.Config.{rows_of}
use Rattle.thy_base.proofs.ConfigLemmas.{AreIn-none, numbers_in_rows}
use Rattle.thy_base.proofs.configuration.ConfigConfiguration.parameters.Goals as goal

pub returns-clause-in_range : goal.returns-clause-in_range
returns-clause-in_range c = rw c.parameters.ensures (numbers_in_rows c.args.self.now (AreIn-none (rows_of c.args.self.now) c.requires))
