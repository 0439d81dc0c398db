use Rattle.thy_thynvm_parts.proofs.LawLemmas.{migration_writes, version_two_stays}
use Rattle.thy_thynvm_parts.proofs.laws.a_migration_writes_a_slot_and_the_commit_block.Goals as goal

pub returns-clause-writes : goal.returns-clause-writes
returns-clause-writes c = migration_writes

pub returns-clause-stays : goal.returns-clause-stays
returns-clause-stays c = version_two_stays
