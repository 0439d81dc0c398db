use Rattle.std.proofs.Common.{◌≡◌}
use Rattle.thy_shadow_parts.specs.Commit.{committed_pool}
use Rattle.thy_shadow_parts.proofs.committing.commit_all.Given as goal

abbrev pub invariant-loop-j : goal.invariant-loop-j
invariant-loop-j l = l.pool ≡ committed_pool l.j l.geometry l.frames l.initial.pool
