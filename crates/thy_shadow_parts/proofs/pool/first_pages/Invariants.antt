use Rattle.thy_shadow_parts.proofs.StateLemmas.{AreFirst}
use Rattle.thy_shadow_parts.proofs.pool.first_pages.Given as goal

abbrev pub invariant-loop-x : goal.invariant-loop-x
invariant-loop-x l = AreFirst l.geometry l.x l.pool
