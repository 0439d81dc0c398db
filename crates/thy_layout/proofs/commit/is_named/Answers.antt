use Rattle.std.proofs.Common.{rules}
use Rattle.thy_layout.proofs.commit.is_named.Goals as goal

pub returns-then-name-eq-COMMIT_MAGIC_VERSION_TWO : goal.returns-then-name-eq-COMMIT_MAGIC_VERSION_TWO
returns-then-name-eq-COMMIT_MAGIC_VERSION_TWO c = search rules

pub returns-then-name-eq-COMMIT_MAGIC_VERSION_ONE : goal.returns-then-name-eq-COMMIT_MAGIC_VERSION_ONE
returns-then-name-eq-COMMIT_MAGIC_VERSION_ONE c = search rules

pub returns-else-name-eq-COMMIT_MAGIC_VERSION_ONE : goal.returns-else-name-eq-COMMIT_MAGIC_VERSION_ONE
returns-else-name-eq-COMMIT_MAGIC_VERSION_ONE c = search rules
