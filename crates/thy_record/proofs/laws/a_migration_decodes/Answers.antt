use Rattle.thy_record.proofs.ThynvmPartsLemmas.{migration_decodes}
use Rattle.thy_record.proofs.laws.a_migration_decodes.Goals as goal

pub returns : goal.returns
returns c = migration_decodes
