use Rattle.thy_checkpoint.proofs.FoundLemmas.{restored_is_kept, never_refused}
use Rattle.thy_checkpoint.proofs.boot_laws.a_restart_is_the_kept_one.Goals as goal

pub returns-clause-kept : goal.returns-clause-kept
returns-clause-kept g c = restored_is_kept g.F.Fills.filling g.met.F.Fills.lawful

pub returns-clause-never : goal.returns-clause-never
returns-clause-never g c = never_refused g.F.Fills.filling g.met.F.Fills.lawful
