use Rattle.std.proofs.Common.{arith}
use Rattle.thy_table.proofs.table.leader_without.Goals as goal

pub returns-clause-last : goal.returns-clause-last
returns-clause-last g c = λ _. (c.if-leader-place.false, λ k l other. c.loop-k.invariant k (omega arith) other)
