use Rattle.thy_thynvm_parts.proofs.LawLemmas.{steps_leave_nvm, failures_write_nothing}
use Rattle.thy_thynvm_parts.proofs.laws.a_recovery_without_migration_writes_nothing.Goals as goal

pub returns-clause-steps : goal.returns-clause-steps
returns-clause-steps c = steps_leave_nvm

pub returns-clause-failures : goal.returns-clause-failures
returns-clause-failures c = failures_write_nothing
