use Rattle.thy_layout.proofs.SavedLemmas.{IsInDoubt-written, IsInDoubt-failed}
use Rattle.thy_layout.proofs.crash_laws.a_commit_leaves_doubt.Goals as goal

pub returns-clause-written : goal.returns-clause-written
returns-clause-written c = IsInDoubt-written

pub returns-clause-failed : goal.returns-clause-failed
returns-clause-failed c = IsInDoubt-failed
