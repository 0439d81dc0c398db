use Rattle.thy_computer.proofs.KeepsLemmas.{Safe-kept, Safe-sealed}
use Rattle.thy_computer.proofs.checkpoint_laws.what_is_kept_is_safe.Goals as goal

pub returns-clause-doubt : goal.returns-clause-doubt
returns-clause-doubt c = Safe-kept

pub returns-clause-both : goal.returns-clause-both
returns-clause-both c = Safe-sealed
