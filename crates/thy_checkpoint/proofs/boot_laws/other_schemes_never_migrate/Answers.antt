use Rattle.thy_checkpoint.proofs.OlderLemmas.{numbered_never_migrate, numbered_count_none}
use Rattle.thy_checkpoint.proofs.boot_laws.other_schemes_never_migrate.Goals as goal

pub returns-clause-never : goal.returns-clause-never
returns-clause-never g c = numbered_never_migrate g.F.Fills.filling

pub returns-clause-none : goal.returns-clause-none
returns-clause-none g c = numbered_count_none g.F.Fills.filling
