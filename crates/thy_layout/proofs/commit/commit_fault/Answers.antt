use Rattle.std.proofs.Common.{rules}
use Rattle.thy_layout.specs.Commit.{commit_fault}
use Rattle.thy_layout.proofs.commit.commit_fault.Goals as goal

pub returns-then-has_zero_rest : goal.returns-then-has_zero_rest
unfolding commit_fault
returns-then-has_zero_rest c = search rules
